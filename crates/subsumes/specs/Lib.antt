-- The verdict on two tables.
pub mod Tables
