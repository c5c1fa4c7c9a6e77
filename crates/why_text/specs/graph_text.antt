pub mod Dot
pub mod Objects
