-- How code is seen: the layouts that readers go by, and fields that were written. No public call cites these.
pub mod Layout
pub mod Layouts
pub mod Written
