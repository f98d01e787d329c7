mod Shaped
pub mod ZeroTrees
pub mod ZeroFits
pub mod Trees
pub mod Found
pub mod Offered
pub mod States
pub mod WholeBodies
pub mod Agreeing
pub mod Behaving
pub mod Whole
pub mod Making
pub mod Modules
