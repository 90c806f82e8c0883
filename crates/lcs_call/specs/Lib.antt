-- What the code asks of two tables. Nobody has to believe this.
pub mod Large
