-- How code is seen.
pub mod Called
pub mod Ended
