-- How code is seen. No public call cites these.
pub mod Code
pub mod Changing
pub mod Instructions
pub mod Running
pub mod Sets
pub mod Once
pub mod Waiting
