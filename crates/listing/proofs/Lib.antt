pub mod Lines
pub mod Pages
pub mod Writing
