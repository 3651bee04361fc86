pub mod Found
pub mod Rest
