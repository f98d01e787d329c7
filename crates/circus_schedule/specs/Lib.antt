pub mod WrittenLine
pub mod TextLines
pub mod Meaning
pub mod Answer
pub mod ScheduleText
pub mod Sampling
pub mod Seen
