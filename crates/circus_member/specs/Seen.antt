-- How code is seen: codes and parts of what is kept. No public call cites these.
pub mod StateCode
pub mod Parts
pub mod Within
pub mod Resting
