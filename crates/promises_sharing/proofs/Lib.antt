pub mod Agreeing
pub mod Alike
pub mod Spared
pub mod Owned
pub mod Sharing
pub mod Turns
