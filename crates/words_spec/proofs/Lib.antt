pub mod NumberLaws
pub mod SameLaws
pub mod Cases
