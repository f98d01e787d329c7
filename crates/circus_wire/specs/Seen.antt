-- How code is seen. No public call cites these.
pub mod PeerCode
pub mod Kept
