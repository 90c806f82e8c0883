-- The fifth call: the forms of evidence, the questions of each, and the call's answer and work space.
pub mod Form
pub mod Map
pub mod Check
pub mod Call
pub mod Taken
