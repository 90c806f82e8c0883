-- The places of a book's fields, as the code keeps them.
pub mod Places
