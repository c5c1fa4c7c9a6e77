pub mod Names
pub mod Numbers
pub mod Codes
pub mod Plans
pub mod Sets
