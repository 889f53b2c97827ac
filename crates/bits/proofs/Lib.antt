pub mod Halves
pub mod Sets
pub mod Steps
pub mod Combining
