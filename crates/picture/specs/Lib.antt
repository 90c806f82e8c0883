-- The picture reader, in the paper's order: what is refused, the depth of a row, the questions of a field, reading,
-- what a readable picture is, and questions one after the other.
pub mod Refusal
pub mod Depth
pub mod Questions
pub mod Read
pub mod Readable
pub mod Asked
