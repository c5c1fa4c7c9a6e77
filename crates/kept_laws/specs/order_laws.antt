pub mod Unordered
