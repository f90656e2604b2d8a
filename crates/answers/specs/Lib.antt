pub mod Refusals
pub mod Answer
pub mod Checks
pub mod Stops
pub mod Order
pub mod Outcomes
pub mod Entries
pub mod Replies
