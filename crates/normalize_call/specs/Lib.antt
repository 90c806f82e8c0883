-- What the call has written. Nobody has to believe these.
pub mod Written
