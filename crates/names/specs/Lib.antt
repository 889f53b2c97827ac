pub mod Table
pub mod Reply
pub mod Theorems
pub mod Inner
