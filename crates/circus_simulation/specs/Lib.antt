pub mod Sampled
pub mod Summary
pub mod Answers
pub mod Seen
pub mod Booted
pub mod Sample
pub mod Schedule
pub mod Settle
