pub mod ImageShapes
pub mod LayerShapes
