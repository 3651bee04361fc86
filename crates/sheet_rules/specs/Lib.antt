pub mod ReachShapes
pub mod RowShapes
pub mod Targets
pub mod SetShapes
