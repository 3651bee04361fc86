pub mod Verdicts
pub mod Numbers
pub mod Suites
pub mod Failures
