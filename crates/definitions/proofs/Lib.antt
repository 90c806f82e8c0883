-- The laws of the definitions book, by subject.
pub mod CasesDefinitions
pub mod Idle
pub mod Unfolds
pub mod Coverings
pub mod WellFormed
pub mod Questions
pub mod Empty
pub mod OtherLimits
