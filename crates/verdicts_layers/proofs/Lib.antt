pub mod Fails
pub mod Rounds
