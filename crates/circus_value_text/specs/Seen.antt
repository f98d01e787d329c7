-- How code is seen: its answers by those of definitions.
pub mod Given
