-- How code is seen: tables of types, and what a draft has. No public call cites these.
pub mod Known
pub mod Scoped
pub mod Drafted
