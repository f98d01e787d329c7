mod Deciding
pub mod Finding
pub mod Passed
pub mod Resolving
pub mod Shapes
mod NamedPlaces
mod Weights
pub mod WellSorted
