-- The laws, by subject.
pub mod NameWalks
pub mod Parts
pub mod NameSteps
