-- What is bounded and counted of merged rows.
pub mod Bound
pub mod Weighing
pub mod Count
