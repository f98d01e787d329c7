-- How code is seen.
pub mod Ending
pub mod Upshot
