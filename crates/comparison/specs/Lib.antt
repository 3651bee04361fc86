pub mod ViolatingTable
pub mod Agree
pub mod Tables
pub mod FaultOn
pub mod Told
