-- The laws of the work space, by subject.
-- parts of lent bytes
pub mod Halves
-- the questions, and the work space after them
pub mod Pairs
pub mod Preparations
pub mod Sizes
-- a result buffer lent beside it
pub mod Lendings
