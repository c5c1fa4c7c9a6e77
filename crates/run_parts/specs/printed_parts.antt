pub mod Chain
pub mod Logged
pub mod Parts
pub mod Reports
