pub mod Intern
pub mod Compare
pub mod Theorems
pub mod Inner
