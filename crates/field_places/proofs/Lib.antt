-- The laws of the places of a book's fields.
pub mod KeptPlaces
