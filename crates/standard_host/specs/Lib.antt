pub mod Hives
