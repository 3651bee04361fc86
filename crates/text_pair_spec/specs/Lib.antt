pub mod Split
pub mod Program
pub mod Opening
pub mod BackToBack
