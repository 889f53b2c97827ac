pub mod Asked
pub mod Reach
pub mod Removable
pub mod Paths
pub mod Theorems
pub mod Inner
