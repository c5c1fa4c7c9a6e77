pub mod boot_script
pub mod quiet_script
pub mod sweep_script
