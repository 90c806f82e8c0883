-- What the code has of rows and of links between them.
pub mod Links
pub mod Rows
