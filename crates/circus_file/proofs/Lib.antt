pub mod Programs
pub mod Whole
mod Steps
