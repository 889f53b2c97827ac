pub mod Hashes
pub mod Filters
