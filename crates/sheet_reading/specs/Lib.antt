pub mod Sheet
pub mod Worked
pub mod Theorems
pub mod Inner
