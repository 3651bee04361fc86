pub mod LayoutShapes
