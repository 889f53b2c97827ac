pub mod Words
pub mod Theorems
pub mod Inner
