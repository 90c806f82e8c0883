-- What the questions of a row know of the rows before it.
pub mod Depths
