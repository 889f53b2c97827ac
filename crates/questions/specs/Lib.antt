pub mod Vars
pub mod Lambdas
pub mod Named
pub mod Theorems
pub mod Inner
