pub mod Evaluated
pub mod Fields
pub mod Converting
pub mod Refusing
pub mod Theorems
