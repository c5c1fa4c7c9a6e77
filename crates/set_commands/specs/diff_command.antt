pub mod Compared
pub mod Answer
pub mod Asks
pub mod Read
