pub mod ExpressionTree
pub mod Operators
pub mod Written
pub mod ExpressionReading
pub mod Standing
pub mod ExpressionOf
pub mod Seen
pub mod Ending
