pub mod HitLaws
pub mod OrderLaws
pub mod ProbeLaws
pub mod ShapeLaws
pub mod FirstMissedLaws
pub mod ListingLaws
pub mod NodesLaws
pub mod Recoded
