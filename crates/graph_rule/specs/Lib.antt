pub mod Entries
pub mod Nodes
pub mod Rows
pub mod Shown
