pub mod Intern
pub mod Theorems
pub mod Inner
