-- The questions in turn.
pub mod Asking
