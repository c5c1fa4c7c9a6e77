pub mod Reading
pub mod Spelling
pub mod Faults
pub mod Same
