pub mod Namers
pub mod Layers
pub mod Pulled
