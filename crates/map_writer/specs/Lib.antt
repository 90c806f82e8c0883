-- What the map file is written from.
pub mod Images
