pub mod Named
pub mod Alike
pub mod NodeEnds
pub mod Seen
