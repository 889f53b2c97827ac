pub mod Lists
pub mod Unwrapping
