pub mod Pairs
pub mod Verdicts
pub mod Judging
