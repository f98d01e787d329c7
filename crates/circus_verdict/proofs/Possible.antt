-- What a node lives through may stand in a record of it.
pub mod Pasts
pub mod Counted
pub mod Activation
pub mod Performed
pub mod Occurring
pub mod Hearing
pub mod Members
pub mod Differing
pub mod Whole
pub mod Sayable
pub mod Saying
pub mod Giving
pub mod Views
