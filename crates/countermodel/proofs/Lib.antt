-- The laws of refutations, by subject.
pub mod Sizes
pub mod Individuals
pub mod Files
-- what is written
pub mod Writings
pub mod Refutables
