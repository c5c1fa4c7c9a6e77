pub mod Words
pub mod Choices
pub mod Watch
pub mod Play
