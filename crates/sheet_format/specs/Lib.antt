pub mod Line
pub mod Worked
pub mod Theorems
pub mod Inner
