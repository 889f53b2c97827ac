pub mod Values
pub mod Fix
pub mod Theorems
pub mod Worked
pub mod Inner
