pub mod Bench
pub mod Book
pub mod Calls
pub mod Crash
pub mod Disk
pub mod Frames
pub mod Host
