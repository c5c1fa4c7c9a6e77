pub mod Modes
pub mod Images
pub mod Listed
pub mod Lines
pub mod Played
pub mod Laws
