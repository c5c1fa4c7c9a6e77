pub mod Left
pub mod Unmet
