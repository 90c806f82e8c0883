-- The laws of the bound and of the count.
pub mod Totals
pub mod Bounds
pub mod Keyings
pub mod Weighings
pub mod Hangings
pub mod Counts
