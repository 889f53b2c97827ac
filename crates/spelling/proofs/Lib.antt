pub mod Identifiers
pub mod Words
pub mod Backslashes
pub mod Spellings
pub mod ReadBack
