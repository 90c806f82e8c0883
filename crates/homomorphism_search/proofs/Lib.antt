-- The laws of the search, by subject.
pub mod Labels
pub mod Walks
pub mod Searches
pub mod Traces
pub mod NormalMaps
pub mod Served
