-- The laws of the pairs that are made.
pub mod Pairings
pub mod Grafts
