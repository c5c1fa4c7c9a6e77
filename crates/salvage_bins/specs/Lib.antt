pub mod Whole
pub mod Loose
pub mod Layout
pub mod Seen
pub mod Ground
