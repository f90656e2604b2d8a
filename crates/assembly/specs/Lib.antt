pub mod Lines
pub mod Scanner
pub mod Numbers
pub mod Assembly
pub mod Places
