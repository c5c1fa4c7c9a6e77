pub mod Freed
pub mod Walk
pub mod Needs
pub mod Cycle
pub mod Shared
