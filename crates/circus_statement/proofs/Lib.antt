pub mod Sounding
pub mod Lawfulness
pub mod Steps
