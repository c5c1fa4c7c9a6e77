pub mod Stages
pub mod Needs
pub mod Indexed
pub mod Vertices
pub mod Grouped
pub mod Children
pub mod Check
