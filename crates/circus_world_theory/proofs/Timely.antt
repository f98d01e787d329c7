-- At a node and in a world nothing that a member does comes late or early.
pub mod Octets
pub mod Wires
pub mod Once
pub mod Callers
pub mod Ranges
pub mod Lives
pub mod Nodes
pub mod Heard
pub mod Lines
pub mod Worlds
pub mod PastsAlike
pub mod Plain
