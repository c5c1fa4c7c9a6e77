pub mod Probe
pub mod Pieces
pub mod Swept
