-- Words of cards.
pub mod Words
