pub mod Head
pub mod Show
pub mod Node
pub mod Cases
