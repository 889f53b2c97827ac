pub mod Dropping
pub mod Copying
pub mod Exchanging
pub mod Given
pub mod Interning
