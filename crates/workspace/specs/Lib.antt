-- The work space of the calls on two pictures.
pub mod Prepare
pub mod Lent
