pub mod VarWalks
pub mod VarPlaces
pub mod Sharing
pub mod NameWalks
pub mod Ways
pub mod Unwrapping
