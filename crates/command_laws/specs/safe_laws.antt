pub mod Images
pub mod Modes
