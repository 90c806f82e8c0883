-- What the verdict program lends to the call.
pub mod Lengths
