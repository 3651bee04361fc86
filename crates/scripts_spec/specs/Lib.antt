pub mod Scripts
pub mod Fates
