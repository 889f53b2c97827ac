pub mod Sort
pub mod Theorems
pub mod Inner
