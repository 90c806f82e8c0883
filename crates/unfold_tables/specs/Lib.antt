-- What unfolding a picture needs. Nobody has to believe these.
pub mod Calls
pub mod Ready
