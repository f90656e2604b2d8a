pub mod Sharing
pub mod Turns
