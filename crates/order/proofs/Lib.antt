-- The worked case, and the laws.
pub mod OrderCases
pub mod Minima
