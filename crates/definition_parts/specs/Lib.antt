-- The pictures of definitions as parts of the book, and the names of a set. Nobody has to believe these.
pub mod Names
pub mod Parts
pub mod Tboxes
