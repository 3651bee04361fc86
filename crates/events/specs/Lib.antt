pub mod Bit
pub mod Sets
pub mod Size
pub mod Lists
