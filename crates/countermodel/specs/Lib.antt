-- Refutations: the file, its individuals as a finite interpretation and as a tree, and what is written.
pub mod Layout
pub mod Individual
pub mod Model
pub mod Writing
