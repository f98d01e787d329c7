-- How code is seen: what restoring answers, and where reading ends, by what reading comes to.
pub mod Ending
pub mod Restored
