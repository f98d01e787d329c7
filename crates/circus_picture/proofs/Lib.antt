pub mod Begun
pub mod Fronts
pub mod HeadLemmas
pub mod KeptLemmas
pub mod LeftLemmas
pub mod MarkLemmas
pub mod WorldLemmas
pub mod SceneLemmas
