pub mod Primitive
