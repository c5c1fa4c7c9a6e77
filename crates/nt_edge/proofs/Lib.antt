pub mod Images
pub mod Placing
pub mod Writing
pub mod Leaving
