-- How code is seen: codes and weights of the trees of types. No public call cites these.
pub mod TypeCode
pub mod TypeWeight
pub mod TypeFalls
