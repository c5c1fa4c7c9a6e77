pub mod Names
pub mod Sweep
