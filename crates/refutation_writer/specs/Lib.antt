-- What the parts of the writer write, as bytes and by the individuals.
pub mod Refuting
pub mod Searches
pub mod Writing
