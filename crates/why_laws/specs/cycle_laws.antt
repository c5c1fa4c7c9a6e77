pub mod Cycles
pub mod Lacks
pub mod Freed
pub mod Reached
