-- The laws of rows as they are written, of stores, of links and of the rows of a table under construction.
pub mod Links
pub mod Stores
pub mod Rows
pub mod Prefixes
