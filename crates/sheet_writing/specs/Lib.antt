pub mod Bytes
pub mod Worked
pub mod Reply
pub mod Theorems
pub mod Inner
