-- How the code of a settling is seen. No public call cites this.
pub mod Stepping
