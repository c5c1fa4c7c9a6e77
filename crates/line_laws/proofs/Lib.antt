mod Filled
mod Pieces
mod Printed
pub mod Lines
