pub mod Settled
pub mod Summary
pub mod Alike
pub mod Answers
pub mod Seen
