pub mod Told
pub mod Apart
pub mod Fails
pub mod Left
pub mod LeftLists
pub mod LeftKeys
pub mod Plain
pub mod Bytes
