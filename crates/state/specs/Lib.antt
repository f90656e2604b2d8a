pub mod States
pub mod Sizes
