pub mod Segment
pub mod Cut
pub mod Seen
