pub mod Readings
pub mod Halfwords
pub mod Numbers
pub mod Instructions
