-- What the call leaves, as lines, and which picture a refusal names.
pub mod RefusedInputs
pub mod Verdicts
