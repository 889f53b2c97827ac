pub mod Copy
pub mod Theorems
pub mod Inner
