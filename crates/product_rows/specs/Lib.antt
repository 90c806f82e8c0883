-- Rows that hang from the same row, and rows of the product as they are made.
pub mod Siblings
pub mod Grown
