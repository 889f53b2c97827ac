pub mod Rows
pub mod Joined
pub mod Sets
pub mod Taken
pub mod Pairs
