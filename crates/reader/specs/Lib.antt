pub mod Reading
pub mod Line
