pub mod Fronts
pub mod Numbers
pub mod Divisions
pub mod TokensLie
mod Scanning
pub mod Spaced
mod Answered
pub mod Words
