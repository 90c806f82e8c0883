-- The tables of the cards, and their cache.
pub mod Tables
pub mod Cache
