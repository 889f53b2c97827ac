pub mod Data
pub mod Pairs
