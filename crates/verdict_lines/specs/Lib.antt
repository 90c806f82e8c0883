-- What the verdict program prints, and what the functions that gather it ask of a map and leave in a buffer.
pub mod Lines
pub mod Gathering
