pub mod Asked
pub mod FileState
pub mod Given
