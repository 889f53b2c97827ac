pub mod Stretches
pub mod Searches
pub mod Loops
pub mod Additions
pub mod Interning
pub mod Offspring
