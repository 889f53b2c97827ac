pub mod Lookup
pub mod Turns
pub mod Worked
pub mod Inner
pub mod Theorems
