pub mod Indexing
pub mod VarNodes
pub mod Renumbering
pub mod Working
pub mod Reading
