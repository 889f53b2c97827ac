pub mod Jobs
pub mod Hosted
pub mod Theorems
pub mod Inner
