pub mod Changed
pub mod Inner
