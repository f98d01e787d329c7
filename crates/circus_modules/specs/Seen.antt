-- How code is seen.
pub mod Made
