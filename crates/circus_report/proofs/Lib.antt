pub mod Leaving
pub mod LinesAdded
mod Numbers
mod PairTable
pub mod PutLemmas
pub mod SentLines
pub mod StepLemmas
pub mod ToldLemmas
