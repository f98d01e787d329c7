-- How code is seen: what stands at a place of a list of operations, and the faults of readers. No public call cites these.
pub mod Standing
pub mod Faults
