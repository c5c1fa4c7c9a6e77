pub mod hive_mend
pub mod mend_command
