pub mod Padding
pub mod Puts
pub mod Going
pub mod Steps
pub mod Marking
pub mod Marks
