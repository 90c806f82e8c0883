-- What the parts of the writer make of two tables.
pub mod Tables
