pub mod Shape
pub mod Steps
pub mod Tables
