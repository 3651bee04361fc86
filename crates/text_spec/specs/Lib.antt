pub mod Lines
pub mod Sets
pub mod Input
pub mod Adds
