pub mod Needs
pub mod Attempts
pub mod Shown
pub mod Told
