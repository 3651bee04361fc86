pub mod Kept
pub mod Compared
