pub mod Naming
pub mod Arranged
pub mod Change
pub mod Named
pub mod Open
pub mod Search
pub mod Seen
