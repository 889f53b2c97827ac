pub mod Placing
pub mod Gaps
pub mod Sorted
pub mod Inserting
