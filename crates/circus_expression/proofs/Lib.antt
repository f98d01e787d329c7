pub mod Follows
pub mod Productions
pub mod Openers
pub mod Stands
pub mod Ends
pub mod EveryLevel
