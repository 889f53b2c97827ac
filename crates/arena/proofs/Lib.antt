pub mod Answers
pub mod Comparisons
pub mod Twice
