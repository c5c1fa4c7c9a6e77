pub mod Lines
pub mod Objects
pub mod Reports
pub mod TreeLines
