pub mod Notices
pub mod Knowing
pub mod Asking
pub mod Seen
