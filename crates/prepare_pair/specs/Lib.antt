-- The two tables in the work space.
pub mod Tables
