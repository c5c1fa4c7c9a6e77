pub mod Edges
pub mod Work
