pub mod WordLaws
pub mod LineLaws
pub mod ProgramLaws
pub mod Lengths
pub mod Cases
