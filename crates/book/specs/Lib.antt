-- The sixth call: the form of a book, the most specific cards, and the call's answer, work space and refusals.
pub mod Form
pub mod Selection
pub mod Call
pub mod Refusals
