-- What the parts of the model check decide.
pub mod ModelRows
