pub mod Marks
pub mod Numbers
pub mod Octets
pub mod Inverse
pub mod WordsInverse
pub mod ReadLemmas
pub mod PieceLemmas
pub mod WordLemmas
