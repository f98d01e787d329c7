pub mod Ends
pub mod Turns
pub mod Records
pub mod Members
