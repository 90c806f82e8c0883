-- Sets of rows, by their words, links and masks; labels, what hangs from a set, and its merged rows.
pub mod Rows
pub mod Labels
pub mod Parts
pub mod Chains
pub mod Walks
