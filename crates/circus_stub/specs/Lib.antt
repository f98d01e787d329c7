pub mod Flat
pub mod Unpacked
pub mod Compiled
pub mod Packed
pub mod StubsText
pub mod Seen
