pub mod FreeVars
pub mod Theorems
pub mod Inner
