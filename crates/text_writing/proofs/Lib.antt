pub mod Tags
pub mod NodePieces
pub mod Childhood
pub mod PlainTypes
