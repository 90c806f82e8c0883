-- laws of what the call has written
pub mod EndAlone
pub mod Writings
