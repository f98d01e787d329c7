pub mod AskedLemmas
mod RunLemmas
pub mod SpareLemmas
mod TakesLemmas
pub mod EventLemmas
pub mod GivenLemmas
pub mod GoneLemmas
pub mod HappenedLemmas
pub mod ServedLemmas
pub mod SuspectLemmas
