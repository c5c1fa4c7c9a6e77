pub mod Faults
pub mod Long
pub mod Recovery
pub mod Opened
pub mod Saving
pub mod Salvage
