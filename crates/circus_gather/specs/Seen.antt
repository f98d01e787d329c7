-- How code is seen: what is kept and compared. No public call cites these.
pub mod GatheredCode
pub mod Groups
pub mod SameCalls
pub mod Slots
