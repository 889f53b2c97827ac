pub mod Applied
pub mod Caches
pub mod Once
