-- The check on two tables.
pub mod Tables
