pub mod Inputs
pub mod Answer
