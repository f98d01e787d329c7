pub mod Opened
pub mod Sound
pub mod Repeats
pub mod Complete
pub mod Tokens
pub mod Types
pub mod TypesRead
pub mod Interfaces
mod Cuts
mod CutTypes
mod CutInterfaces
pub mod Widens
pub mod InterfaceLevels
pub mod Levels
pub mod Lawful
pub mod TypeLevels
pub mod Whole
pub mod Viewed
pub mod TextRead
pub mod Loops
pub mod ByWord
pub mod ByLine
pub mod Twice
pub mod TwiceTypes
pub mod TwiceInterfaces
pub mod Fills
pub mod FillTypes
pub mod FillInterfaces
mod OneFilling
