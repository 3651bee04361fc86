pub mod Names
pub mod Tells
