-- The laws of depths.
pub mod Depths
