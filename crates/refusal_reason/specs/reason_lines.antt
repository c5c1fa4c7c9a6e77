pub mod Texts
pub mod Files
pub mod Kinds
pub mod Heard
pub mod Lines
pub mod Seen
pub mod Printed
