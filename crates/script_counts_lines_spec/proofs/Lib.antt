pub mod LineLaws
pub mod WordLaws
pub mod ProgramLaws
pub mod MeaningLaws
pub mod Lengths
pub mod Cases
