pub mod Asked
pub mod Sets
pub mod Signs
