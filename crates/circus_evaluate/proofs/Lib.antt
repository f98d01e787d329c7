pub mod Alike
pub mod Fitting
pub mod Items
pub mod PartSizes
mod PutLemmas
pub mod Sound
mod Stepping
mod Stopping
