pub mod Replies
pub mod Positions
pub mod Turns
pub mod Halving
pub mod Evaluated
