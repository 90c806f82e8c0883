-- The laws of the model check.
pub mod LabelTests
pub mod Models
