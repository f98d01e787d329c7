mod TypeItems
pub mod Dropped
pub mod Items
pub mod LeastMore
pub mod Sizes
pub mod NoFaults
pub mod InsideInRange
pub mod InsideObeys
pub mod WholeTypes
