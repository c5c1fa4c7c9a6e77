pub mod hive_levels
pub mod key_cells
pub mod judged_cells
pub mod key_command
