pub mod Xorshift
pub mod Walks
pub mod Calls
pub mod Meaning
