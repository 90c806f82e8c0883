-- Rings of definitions, over words. Nobody has to believe these.
pub mod Rings
