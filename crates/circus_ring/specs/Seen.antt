-- How code is seen: the layout by which a table is read. No public call cites it.
pub mod TableLayout
