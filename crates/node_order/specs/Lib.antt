pub mod NodeOrder
pub mod WordsOrder
pub mod Theorems
pub mod Inner
