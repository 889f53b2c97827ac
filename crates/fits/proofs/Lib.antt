pub mod Answering
pub mod NoRoll
