pub mod Bit
pub mod Sets
pub mod SizeLaws
pub mod Gathered
pub mod ListLaws
