pub mod Entries
pub mod Growing
pub mod Runs
pub mod Marks
