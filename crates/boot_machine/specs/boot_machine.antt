pub mod Codes
pub mod Parts
pub mod Queue
pub mod Steps
pub mod Views
