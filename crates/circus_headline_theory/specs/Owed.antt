-- What members, nodes and worlds make, and that it is owed.
pub mod Living
pub mod Fanout
pub mod SameCall
pub mod Makes
pub mod Owes
pub mod OrderedMakes
