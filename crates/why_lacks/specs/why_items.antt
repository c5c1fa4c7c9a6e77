pub mod Vertices
pub mod Items
pub mod Gone
