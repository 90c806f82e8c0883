-- The laws of reading a definitions book.
pub mod Exclusions
pub mod Indexes
pub mod DefinitionsInTurn
