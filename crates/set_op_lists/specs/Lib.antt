pub mod SetOps
pub mod Inner
