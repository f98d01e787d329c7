-- How code is seen: what tables say.
pub mod Tables
