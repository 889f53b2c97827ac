pub mod Children
pub mod Added
pub mod Stored
