mod Looking
mod Learning
pub mod Writing
