-- How code is seen: codes and weights of the trees of expressions. No public call cites these.
pub mod ExpressionCode
pub mod ExpressionWeight
pub mod ExpressionFalls
