-- The laws of card books, by subject.
-- books as they are written
pub mod WrittenBooks
-- the questions, in their order
pub mod Orders
-- the cards that are selected
pub mod Selections
-- the call
pub mod Answers
-- worked cases, computed
pub mod BookCases
