pub mod Checks
pub mod Numbers
pub mod Order
pub mod Entries
