pub mod Calls
pub mod Changes
pub mod Copies
pub mod Plans
pub mod Schemes
pub mod Turned
pub mod Twin
