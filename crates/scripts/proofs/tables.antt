pub mod Cells
pub mod Sums
pub mod Rounds
