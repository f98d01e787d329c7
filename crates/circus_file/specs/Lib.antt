pub mod WrittenProgram
pub mod ProgramTree
pub mod ProgramReading
