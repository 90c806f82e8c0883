-- The laws, by subject.
pub mod SettledSets
pub mod WantedNames
pub mod RingSets
pub mod Settlings
pub mod UsesFound
