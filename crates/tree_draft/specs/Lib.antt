pub mod Slots
pub mod Values
pub mod Children
pub mod Change
pub mod Stops
