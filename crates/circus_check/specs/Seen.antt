-- How code is seen: what tables say of names, and what is made of modules.
pub mod Tables
pub mod Rows
pub mod Known
pub mod Scoped
pub mod Programs
pub mod Contexts
pub mod Surroundings
pub mod Progress
