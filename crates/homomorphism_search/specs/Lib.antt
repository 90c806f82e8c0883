-- What the search decides, and what it leaves behind.
pub mod Search
