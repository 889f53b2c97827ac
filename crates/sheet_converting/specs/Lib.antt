pub mod Convert
pub mod Worked
pub mod Theorems
