pub mod Snapshot
pub mod Restoring
pub mod Joining
pub mod Faults
pub mod Seen
