pub mod FlatLemmas
pub mod StandLemmas
pub mod ReaderLemmas
pub mod KindLemmas
pub mod WriterLemmas
pub mod UnpackLemmas
pub mod ShowLemmas
pub mod Roundtrips
mod Obeying
