pub mod Storing
pub mod Meaning
pub mod Bodies
pub mod Typed
pub mod Modules
pub mod Tally
pub mod Seen
pub mod Laws
