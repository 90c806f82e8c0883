-- The laws of the two tables in the work space.
pub mod TabledPairs
pub mod TablesIn
