pub mod Booting
pub mod Deploying
pub mod Performing
pub mod Staying
pub mod Tabling
mod TableSteps
