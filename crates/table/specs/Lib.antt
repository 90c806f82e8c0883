-- The definitions of the byte form. A reader has to believe them, but for NameValues.
pub mod Pick
pub mod Range
pub mod Layout
pub mod Bounds
pub mod Profiles
pub mod Put
pub mod Number
pub mod NameSet
pub mod Fields
pub mod NameValues
