pub mod Heads
pub mod Trees
