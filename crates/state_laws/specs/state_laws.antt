pub mod Tries
pub mod Unmet
pub mod Met
pub mod Moment
