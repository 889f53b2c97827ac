pub mod Leading
pub mod Remembering
pub mod Turns
pub mod Others
pub mod Gathering
pub mod Passing
