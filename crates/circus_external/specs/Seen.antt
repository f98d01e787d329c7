-- How code is seen: the answers of readers. No public call cites these.
pub mod Given
