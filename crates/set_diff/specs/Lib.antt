pub mod Shown
pub mod Listed
pub mod Texts
pub mod Services
pub mod Boots
pub mod Sets
pub mod Indexed
