pub mod Answer
pub mod Inputs
