pub mod Shapes
pub mod Tables
