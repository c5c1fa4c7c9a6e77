pub mod Writes
pub mod Numbers
pub mod Uses
pub mod Below
