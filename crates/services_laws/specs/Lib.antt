pub mod Whole
pub mod Said
pub mod Stands
pub mod Started
pub mod Marked
pub mod Agrees
pub mod Timed
