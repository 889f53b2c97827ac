pub mod Fields
pub mod ValueWords
pub mod Fixes
pub mod Passing
pub mod Checking
pub mod Evaluated
