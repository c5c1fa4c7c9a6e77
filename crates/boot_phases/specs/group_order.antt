pub mod Few
pub mod FirstPlaces
pub mod Values
