-- How code is seen: codes of what is kept, and what code keeps true. No public call cites these.
pub mod Stepping
pub mod Simulated
