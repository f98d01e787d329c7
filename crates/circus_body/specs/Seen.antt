-- How code is seen.
pub mod Named
pub mod Parts
