pub mod Leaning
pub mod Starts
pub mod Reports
