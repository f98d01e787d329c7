-- How code is seen: deeds as they are kept, and what rows are drawn by. No public call cites these.
pub mod Kept
pub mod Drawing
