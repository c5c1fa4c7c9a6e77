pub mod Marvin
