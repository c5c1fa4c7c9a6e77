pub mod LineCount
pub mod OneDriver
pub mod TreeObjects
pub mod TreeText
