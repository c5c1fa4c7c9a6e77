pub mod error_control
pub mod service_entries
pub mod group_order
pub mod boot_phases
