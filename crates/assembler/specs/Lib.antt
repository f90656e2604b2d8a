pub mod Entry
pub mod Passes
