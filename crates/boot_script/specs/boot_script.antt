pub mod Words
pub mod Values
pub mod Commands
pub mod Script
pub mod Events
pub mod Spelling
