pub mod Seen
pub mod Removal
pub mod Pass
pub mod Passes
pub mod Reading
pub mod Demand
pub mod Worked
pub mod Theorems
