pub mod Numbers
pub mod Same
