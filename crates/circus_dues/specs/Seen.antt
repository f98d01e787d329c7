-- How code is seen.
pub mod Beginning
pub mod DuesCode
pub mod Owing
pub mod Parts
pub mod PartsCode
pub mod Steps
pub mod Sound
pub mod Following
