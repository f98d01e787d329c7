pub mod StatementTree
pub mod WrittenStatement
pub mod StatementReading
pub mod StatementStanding
pub mod StatementOf
pub mod Seen
