-- Every datagram that a node sends is justified, and in a world true.
pub mod Sent
pub mod AtPairs
pub mod Membership
pub mod Returning
pub mod Requested
pub mod Asked
pub mod Course
pub mod Justifying
pub mod Theorem
pub mod Tables
pub mod WorldCourse
pub mod WorldTheorem
