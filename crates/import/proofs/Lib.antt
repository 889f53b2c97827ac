pub mod Running
pub mod Hosts
