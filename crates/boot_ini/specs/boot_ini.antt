pub mod Keys
pub mod Entries
pub mod Ini
pub mod Choice
pub mod Parts
pub mod Spelling
