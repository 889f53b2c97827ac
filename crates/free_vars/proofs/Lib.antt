pub mod FirstCopies
pub mod Occurrences
pub mod Counts
pub mod VarPlaces
pub mod Listings
pub mod Collections
pub mod Replies
