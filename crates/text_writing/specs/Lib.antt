pub mod Text
pub mod Theorems
pub mod Inner
