pub mod Worked
pub mod Theorems
