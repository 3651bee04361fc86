pub mod Refinement
pub mod ViolatingPairs
