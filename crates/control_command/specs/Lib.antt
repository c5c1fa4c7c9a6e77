pub mod Commands
pub mod Report
pub mod Inputs
pub mod Answer
