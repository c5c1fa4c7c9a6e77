pub mod Reports
pub mod States
pub mod Lacks
pub mod Places
