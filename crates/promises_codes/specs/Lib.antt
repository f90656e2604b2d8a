pub mod Halfwords
pub mod Instructions
