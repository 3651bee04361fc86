pub mod Theorem
pub mod Uses
pub mod Strays
pub mod Reached
