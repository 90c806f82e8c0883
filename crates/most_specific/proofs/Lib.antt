-- The laws of the call as the code makes it.
pub mod Calls
