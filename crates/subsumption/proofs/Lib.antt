-- The laws of the third call, by subject.
-- what is written is evidence
pub mod EvidenceBytes
pub mod Writers
pub mod Mentioned
pub mod Lowest
-- worked cases, computed
pub mod VerdictCases
