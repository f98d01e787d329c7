pub mod Got
pub mod Parts
pub mod Evaluating
pub mod Typed
pub mod Given
pub mod Steps
pub mod Putting
pub mod Seen
