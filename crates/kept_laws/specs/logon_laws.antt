pub mod Clones
pub mod Saves
