pub mod Renumbered
pub mod Inner
