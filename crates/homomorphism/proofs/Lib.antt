-- The laws of map files.
pub mod MapFiles
-- the paper's bytes
pub mod Sizes
