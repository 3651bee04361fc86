pub mod Faults
pub mod Rows
pub mod Answers
