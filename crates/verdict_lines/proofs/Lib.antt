-- The laws of what is printed: numbers, texts put one after the other, the lines of a map, and worked cases.
pub mod Decimals
pub mod Gatherings
pub mod MapLines
pub mod CasesPrinted
