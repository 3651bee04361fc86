pub mod Runs
pub mod Nodes
pub mod Text
