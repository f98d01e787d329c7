pub mod Outgoing
pub mod Pieces
