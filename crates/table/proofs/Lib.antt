-- The laws of the definitions, by subject.
pub mod Bools
pub mod Tests
pub mod Sizes
pub mod Profiles
pub mod Puts
pub mod Numbers
pub mod Ranges
pub mod Bits
pub mod Lowest
pub mod NameSets
pub mod SetsBelow
pub mod Rows
