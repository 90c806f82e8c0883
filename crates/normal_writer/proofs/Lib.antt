-- The laws of the writer: merged rows counted, written and tidied; the whole table.
pub mod Growth
pub mod Nodes
pub mod Leavings
pub mod Turns
pub mod Roots
pub mod Tablings
