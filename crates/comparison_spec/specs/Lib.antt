pub mod Comparison
pub mod Numbers
pub mod Contract
pub mod Meaning
