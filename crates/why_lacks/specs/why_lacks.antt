pub mod Lacks
