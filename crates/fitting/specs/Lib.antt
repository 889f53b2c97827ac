pub mod Fits
pub mod Worked
pub mod Theorems
pub mod Inner
