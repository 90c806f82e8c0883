-- The laws of the call and of halves.
-- the whole table, the call, and a half of the work space
pub mod Answers
pub mod Halves
