-- The laws of individuals, and of a walk along links.
pub mod Individuals
pub mod Walks
