pub mod Cache
pub mod Hosted
pub mod Work
