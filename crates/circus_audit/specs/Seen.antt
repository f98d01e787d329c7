-- How a record is read, line by line. No public call cites these.
pub mod Answers
pub mod Breaking
pub mod Names
pub mod Values
pub mod Events
pub mod Happening
pub mod Lines
pub mod Performing
pub mod Differing
pub mod Views
pub mod Reading
pub mod Outlook
pub mod Read
