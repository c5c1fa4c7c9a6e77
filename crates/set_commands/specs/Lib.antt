pub mod hive_sets
pub mod check_command
pub mod diff_command
