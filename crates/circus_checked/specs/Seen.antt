-- How checked trees are told apart and measured. No public call cites these.
pub mod ExpressionCode
pub mod ExpressionWeight
pub mod ExpressionFalls
pub mod StatementCode
pub mod StatementWeight
pub mod StatementFalls
