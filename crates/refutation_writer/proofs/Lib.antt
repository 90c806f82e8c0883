-- The laws of the writer, by subject.
pub mod Walks
pub mod Canonicals
pub mod Refutings
pub mod Misses
pub mod RefutingTurns
pub mod Writings
