pub mod Seen
pub mod Misses
pub mod Lists
