pub mod Signs
pub mod Bools
pub mod Scatter
pub mod Sweep
pub mod Rows
pub mod Bounds
