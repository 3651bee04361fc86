pub mod Probes
pub mod Shapes
pub mod FirstMissed
pub mod Listing
pub mod Nodes
pub mod Together
