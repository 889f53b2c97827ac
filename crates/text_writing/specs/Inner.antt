pub mod Children
pub mod Formed
