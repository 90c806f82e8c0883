-- What the parts of the normal-table writer do.
pub mod Grown
pub mod Built
pub mod Tables
