-- What a served node writes is accepted by an audit.
pub mod Noting
pub mod Spares
pub mod Serving
pub mod RingQuiet
pub mod RingGiving
pub mod Recorded
pub mod Accepted
pub mod Written
