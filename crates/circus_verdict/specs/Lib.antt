pub mod Audited
pub mod Beside
pub mod Verdict
pub mod Seen
