-- What the code asks of the depths of a table's rows. Nobody has to believe these.
pub mod Depths
