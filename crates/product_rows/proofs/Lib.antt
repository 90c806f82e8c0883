-- The laws of the rows of the product.
pub mod Edges
pub mod SiblingRows
pub mod Growth
pub mod Nodes
pub mod Copies
