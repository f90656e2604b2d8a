pub mod Lines
pub mod Assembly
