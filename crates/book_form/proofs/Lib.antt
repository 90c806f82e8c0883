-- The laws of words of cards.
pub mod CardSets
