-- What the code has of a refutation file, and a walk along its links.
pub mod Individuals
pub mod Walks
