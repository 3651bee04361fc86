pub mod ShowLaws
pub mod NodeLaws
pub mod OptionalLaws
pub mod Lengths
pub mod Cases
