pub mod Quiet
pub mod Parts
pub mod Open
pub mod Told
