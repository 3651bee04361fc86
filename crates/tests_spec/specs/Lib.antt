pub mod Flags
pub mod Runs
pub mod Numbers
pub mod Reports
