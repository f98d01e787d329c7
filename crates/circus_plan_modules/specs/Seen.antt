-- How code is seen.
pub mod Behaving
