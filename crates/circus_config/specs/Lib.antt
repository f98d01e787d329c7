pub mod Rank
pub mod Told
pub mod Reading
pub mod Checking
pub mod Program
pub mod Seen
