pub mod ExpressionTree
pub mod ExpressionOf
pub mod Sorts
pub mod StatementTree
pub mod StatementOf
pub mod WellTyped
pub mod Seen
