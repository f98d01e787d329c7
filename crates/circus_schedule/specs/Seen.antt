-- How code is seen: what a text is cut at, lines with names that are lent, and the table of nodes. No public call cites
-- these.
pub mod Cut
pub mod Written
pub mod Table
