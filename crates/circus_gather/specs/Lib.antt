pub mod Gathering
pub mod Seen
