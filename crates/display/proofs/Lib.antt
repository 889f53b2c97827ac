pub mod Evaluated
pub mod Printings
pub mod Replies
