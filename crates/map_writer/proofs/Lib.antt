-- The map that is written, as the search left it, and numbers of several bytes.
pub mod Maps
pub mod Numbers
