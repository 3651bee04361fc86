pub mod Flat
pub mod Crossing
pub mod Kinds
