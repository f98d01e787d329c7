pub mod RingTable
pub mod ViewOf
pub mod TableFields
pub mod Seen
