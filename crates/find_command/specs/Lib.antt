pub mod Asked
pub mod Answer
pub mod Prints
pub mod Tells
