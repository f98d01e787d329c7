-- How code is seen: codes and weights of the trees of statements. No public call cites these.
pub mod StatementCode
pub mod StatementWeight
pub mod StatementFalls
