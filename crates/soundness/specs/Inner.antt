pub mod Sound
pub mod Zero
pub mod Reading
pub mod Sides
