pub mod Least
pub mod Known
pub mod Stopping
pub mod Seen
