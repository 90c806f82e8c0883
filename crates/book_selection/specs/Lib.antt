-- Where the tables stand, the walk over cards, and what their comparison has found.
pub mod Standing
pub mod Next
pub mod Walk
pub mod Comparing
