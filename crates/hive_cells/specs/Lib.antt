pub mod Reading
pub mod Held
pub mod Holes
pub mod Changes
pub mod Frees
pub mod Sources
pub mod Opened
