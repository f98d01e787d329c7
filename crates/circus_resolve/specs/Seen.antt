-- How code is seen.
pub mod Found
pub mod Parts
pub mod Scoped
pub mod Steps
pub mod Wanted
