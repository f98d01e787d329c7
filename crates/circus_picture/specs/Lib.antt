pub mod Row
pub mod Label
pub mod Deeds
pub mod Rows
pub mod Picture
pub mod Seen
