-- The laws of the calls under a definitions book, by subject.
pub mod AgainstShortcuts
pub mod Givens
pub mod Calls
pub mod Orders
pub mod Answers
pub mod Conditions
pub mod Ignored
pub mod Commons
pub mod Books
pub mod Asked
pub mod Empty
