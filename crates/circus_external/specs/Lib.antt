pub mod Octets
pub mod Spelling
pub mod Answer
pub mod Refusal
pub mod Reading
pub mod Seen
