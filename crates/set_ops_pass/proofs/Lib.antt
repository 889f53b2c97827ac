pub mod Normalizing
pub mod Working
pub mod Flattening
