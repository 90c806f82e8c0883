-- The laws of 17 to 20 as the code asks them.
pub mod MapLaws
