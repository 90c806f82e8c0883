-- The fourth call: the common picture, and the call's answer, work space and result buffer; and what 003, Definition 2, compares the common picture with.
pub mod Product
pub mod Description
pub mod Call
