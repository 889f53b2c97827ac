pub mod Clearing
pub mod Hosts
