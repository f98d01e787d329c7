pub mod Leading
pub mod Replacing
pub mod Proper
