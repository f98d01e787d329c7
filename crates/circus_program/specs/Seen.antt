-- How code is seen: what its forms, endings and steps say as plain data. No public call cites these.
pub mod Words
pub mod Step
pub mod Put
pub mod Asked
pub mod Known
pub mod Ready
pub mod Ended
pub mod Followed
