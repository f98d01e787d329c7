pub mod Items
pub mod LeastIs
pub mod LeastMore
pub mod Stopping
pub mod NoFaults
pub mod KnownNames
