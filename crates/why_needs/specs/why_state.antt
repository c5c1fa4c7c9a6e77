pub mod Views
pub mod States
pub mod Heads
