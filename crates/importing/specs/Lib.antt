pub mod Import
pub mod Worked
pub mod Theorems
pub mod Inner
