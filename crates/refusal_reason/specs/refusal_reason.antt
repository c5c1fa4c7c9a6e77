pub mod Notes
pub mod Reasons
pub mod Laws
