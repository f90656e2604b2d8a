pub mod Resuming
