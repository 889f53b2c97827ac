pub mod Fits
pub mod Theorems
pub mod Inner
