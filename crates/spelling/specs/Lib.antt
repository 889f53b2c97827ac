pub mod Spelling
pub mod Reading
pub mod Theorems
