-- The third call: the verdict, its evidence, and the call's answer, work space and result buffer.
pub mod Verdict
pub mod Mentions
pub mod Call
