pub mod ModuleTree
pub mod WrittenModule
pub mod ModuleReading
pub mod ModuleStanding
pub mod Ending
pub mod ReadAt
