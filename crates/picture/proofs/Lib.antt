-- The laws of reading, by subject.
pub mod Depths
pub mod Questions
pub mod Fields
pub mod Scans
pub mod Readables
pub mod Exits
pub mod Orders
pub mod ReadInTurn
pub mod Keeping
pub mod Cases
