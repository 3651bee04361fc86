pub mod Graph
pub mod Bound
pub mod Reach
pub mod Order
pub mod Near
pub mod Cleared
pub mod Product
pub mod Pairs
