-- The laws of the comparison.
pub mod Standings
pub mod Comparisons
