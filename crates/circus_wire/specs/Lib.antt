pub mod Wire
pub mod WireActs
pub mod WireStanding
pub mod Seen
