pub mod OneDriver
pub mod SmallCells
pub mod Rings
