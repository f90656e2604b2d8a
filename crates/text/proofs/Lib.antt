pub mod Samples
pub mod Lengths
pub mod ShortLengths
pub mod Distinct
