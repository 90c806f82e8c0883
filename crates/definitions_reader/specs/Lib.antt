-- What the readers of a definitions book find. Nobody has to believe these.
pub mod Excluded
pub mod Index
