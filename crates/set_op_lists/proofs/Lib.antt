pub mod Bringing
pub mod Closing
