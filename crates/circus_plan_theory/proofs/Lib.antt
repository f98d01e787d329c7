mod Bodies
mod Abiding
pub mod Plan
pub mod Troupes
pub mod Hosted
