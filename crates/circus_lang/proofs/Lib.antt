pub mod Modules
pub mod Whole
mod Steps
mod ReadIs
