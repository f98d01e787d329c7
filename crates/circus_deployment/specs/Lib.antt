pub mod Rank
pub mod Nodes
pub mod Faults
pub mod Meaning
pub mod InRange
pub mod Answer
pub mod Seen
