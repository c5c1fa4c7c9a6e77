pub mod Reading
pub mod Entries
pub mod Old
pub mod Replay
pub mod Seen
pub mod Stops
pub mod Laws
