pub mod Digits
pub mod Gives
pub mod Items
pub mod Quotes
pub mod Reading
pub mod Takes
pub mod Writing
