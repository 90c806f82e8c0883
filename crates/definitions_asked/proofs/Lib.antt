-- The laws of asking.
pub mod AskedInTurn
pub mod PictureLots
pub mod Sizes
pub mod UnfoldedSizes
pub mod Openings
