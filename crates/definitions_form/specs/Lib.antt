-- A definitions book whose form was asked.
pub mod Formed
