pub mod Reading
pub mod Stopping
pub mod WordReading
pub mod Seen
