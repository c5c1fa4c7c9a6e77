pub mod Generated
pub mod File
