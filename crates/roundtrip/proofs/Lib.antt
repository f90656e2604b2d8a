pub mod Digits
pub mod Operands
pub mod Formats
pub mod Reading
pub mod Meaning
pub mod Words
pub mod Same
