pub mod Context
pub mod Faults
pub mod Meaning
pub mod Ending
pub mod Regular
pub mod Seen
