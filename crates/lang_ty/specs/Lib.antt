pub mod Told
pub mod Numbered
pub mod Needs
pub mod FixTrees
pub mod Theorems
