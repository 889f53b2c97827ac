pub mod Compact
pub mod Inner
