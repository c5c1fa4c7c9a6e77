pub mod marvin_hash
pub mod log_parts
pub mod entry_log
pub mod dirt_log
