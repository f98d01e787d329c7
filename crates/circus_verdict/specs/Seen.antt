-- How code is seen. No public call cites these.
pub mod Living
pub mod Shape
pub mod Judged
pub mod Judging
pub mod Station
pub mod Ringing
