pub mod ProgramLaws
pub mod Lengths
pub mod Cases
