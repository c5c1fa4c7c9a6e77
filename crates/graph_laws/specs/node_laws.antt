pub mod Attempts
pub mod Edges
pub mod Parts
