pub mod Attempts
pub mod Firsts
pub mod Index
pub mod Kept
pub mod Waiting
pub mod Wants
pub mod Work
