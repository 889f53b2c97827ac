pub mod Hash
pub mod Filter
