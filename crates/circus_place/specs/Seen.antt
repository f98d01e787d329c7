-- How code is seen: the productions as they read, tables of attributes, relations of machines, tests and the search.
pub mod Reading
pub mod Cut
pub mod Table
pub mod Test
pub mod Search
