pub mod Performing
pub mod Record
pub mod Acts
pub mod Seen
