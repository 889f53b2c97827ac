pub mod Sequences
pub mod Hosts
