-- The map file, and the map that is written.
pub mod Layout
pub mod Map
