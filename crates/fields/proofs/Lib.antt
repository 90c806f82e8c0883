-- The laws of the definitions, by subject.
-- worked cases, computed
pub mod Cases
-- the form of a file of fields
pub mod Forms
-- what is listed of fields
pub mod Listings
