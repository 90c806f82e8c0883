-- The second call, and a table in a half of the work space.
pub mod Call
pub mod Half
