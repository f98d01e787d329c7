-- Proofs of the laws of modules, which no contract cites.
pub mod OfTally
