pub mod Best
pub mod Smallest
pub mod Half
pub mod Shortest
