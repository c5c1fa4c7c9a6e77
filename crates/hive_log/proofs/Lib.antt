pub mod Runs
pub mod Ranks
pub mod Bits
pub mod LogParts
pub mod Finding
pub mod Opened
pub mod Text
pub mod Dirty
pub mod Same
pub mod Appending
pub mod SoFar
pub mod Looks
pub mod Looked
pub mod Asking
pub mod AskedParts
pub mod AskedWhole
mod Pages
