-- The calls under a definitions book: what is asked before the first 14, answers and buffers, what the common picture
-- has to be, the nearest cards, and refutations that differ at defined names alone.
pub mod Given
pub mod Calls
pub mod Description
pub mod Book
pub mod Asked
pub mod Ignored
