pub mod Answer
pub mod Read
