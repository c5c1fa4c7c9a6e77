pub mod Inputs
pub mod Made
pub mod Answer
