pub mod Control
pub mod Export
pub mod Import
pub mod Make
pub mod Safe
pub mod Texts
pub mod Twin
