pub mod Tables
pub mod Push
pub mod Queue
pub mod Words
pub mod FoundLaws
pub mod Steps
pub mod Read
pub mod Cases
