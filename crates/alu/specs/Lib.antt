pub mod Integers
pub mod Arithmetic
