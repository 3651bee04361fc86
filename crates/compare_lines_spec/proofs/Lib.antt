pub mod LineLaws
pub mod Lengths
pub mod ProgramLaws
pub mod SaysLaws
pub mod Cases
