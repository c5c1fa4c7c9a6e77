pub mod Objects
pub mod Paths
pub mod Quoted
