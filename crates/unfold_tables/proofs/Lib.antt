-- laws of pictures that unfolding changes
pub mod Changes
