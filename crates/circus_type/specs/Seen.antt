-- How code is seen: sizes that stop above their limits.
pub mod Measured
