pub mod Places
pub mod Proper
pub mod Fitting
pub mod Named
