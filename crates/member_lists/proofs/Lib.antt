pub mod MemberBits
pub mod Copying
pub mod BoundKinds
pub mod Splices
pub mod Decisions
pub mod ListNodes
pub mod Closings
pub mod Covering
