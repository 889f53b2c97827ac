pub mod Reply
pub mod Worked
pub mod Theorems
pub mod Inner
