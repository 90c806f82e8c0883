-- The laws of the check as the code makes it.
pub mod CheckLaws
