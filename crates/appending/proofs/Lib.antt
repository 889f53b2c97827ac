pub mod Appending
pub mod SpelledNames
