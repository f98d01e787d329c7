pub mod InterfaceSignatures
pub mod Zeros
pub mod Signatures
pub mod Behaviours
pub mod Seen
