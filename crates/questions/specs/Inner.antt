pub mod Lambdas
pub mod Vars
