-- How code is seen. No public call cites these.
pub mod Values
pub mod Suffixes
pub mod Subscripts
