pub mod Asked
pub mod FilesState
pub mod Found
pub mod Mixing
pub mod Shown
pub mod Stops
