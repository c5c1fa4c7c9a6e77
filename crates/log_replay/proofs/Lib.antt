pub mod Wholes
pub mod Going
pub mod Ending
pub mod Numbers
