pub mod Pieces
pub mod Following
pub mod Telling
pub mod Choosing
pub mod Guessing
