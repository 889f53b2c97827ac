pub mod Children
pub mod Rebuilt
