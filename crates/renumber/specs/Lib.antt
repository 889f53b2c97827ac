pub mod Renumber
pub mod Theorems
