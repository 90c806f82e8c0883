-- What is asked of a definitions book and of the pictures that a call is given. Nobody has to believe these.
pub mod Lots
pub mod Given
pub mod Measures
pub mod Asking
