-- How code is seen: codes of what is kept, and what code keeps true. No public call cites these.
pub mod Asking
pub mod Counting
pub mod Faults
pub mod Going
pub mod RecordCode
