pub mod Fields
pub mod Answered
