pub mod Simplify
pub mod Inner
