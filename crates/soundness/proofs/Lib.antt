pub mod Zeros
pub mod Checks
pub mod Verdicts
pub mod Sides
