pub mod Running
pub mod Shaping
pub mod Folding
