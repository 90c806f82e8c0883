-- The laws of the common picture, by subject.
-- what is written is a picture, and its covering
pub mod Commons
-- the call
pub mod Answers
-- worked cases, computed; first those that rule out a shortcut
pub mod AgainstShortcuts
pub mod CommonCases
