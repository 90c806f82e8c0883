-- The laws of 25, as the code asks it.
pub mod NamedDefinitions
