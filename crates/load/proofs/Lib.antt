pub mod Lists
pub mod Going
pub mod Answers
