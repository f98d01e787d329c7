pub mod Deployments
pub mod Whole
mod Steps
