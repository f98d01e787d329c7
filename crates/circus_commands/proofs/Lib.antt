pub mod Appended
mod Told
pub mod OneProgram
pub mod OneEnding
