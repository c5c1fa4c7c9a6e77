pub mod Waits
pub mod Graph
pub mod Working
pub mod Classes
