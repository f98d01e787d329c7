-- How code is seen: codes of what is kept, and what code keeps true. No public call cites these.
pub mod Can
pub mod Faults
pub mod Kept
pub mod ActingOf
pub mod StationOf
pub mod Sent
pub mod NodeCode
