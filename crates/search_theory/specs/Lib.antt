pub mod Tables
pub mod Queue
pub mod Push
pub mod Words
pub mod Found
pub mod Steps
pub mod Read
