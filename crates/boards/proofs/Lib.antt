-- Laws that belong to no one function.
pub mod Boards
pub mod Sharing
