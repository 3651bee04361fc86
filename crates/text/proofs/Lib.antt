pub mod PageLaws
pub mod Members
