pub mod Formats
pub mod Trial
