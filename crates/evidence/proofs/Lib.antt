-- The laws of evidence, by subject.
-- what 17 to 20 and 21 to 23 say
pub mod Files
pub mod Homomorphisms
pub mod Refutations
-- what is taken, and what that shows
pub mod NormalTables
pub mod Soundness
-- the call
pub mod Verifications
pub mod Refusals
-- worked cases, computed
pub mod EvidenceCases
