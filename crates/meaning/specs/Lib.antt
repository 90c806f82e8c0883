-- A picture file as a description tree, and a tree as a picture file.
pub mod Meaning
pub mod File
pub mod NormalTable
pub mod Covering
