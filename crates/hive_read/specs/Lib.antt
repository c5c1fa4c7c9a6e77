pub mod Taken
pub mod Marks
pub mod Walked
pub mod Payloads
pub mod Celled
pub mod Judged
