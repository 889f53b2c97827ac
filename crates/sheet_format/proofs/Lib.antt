pub mod Digits
pub mod Lines
pub mod Counting
pub mod Texts
pub mod Answering
pub mod Reading
pub mod Evaluated
