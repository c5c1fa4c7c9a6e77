pub mod arc_path
pub mod boot_ini
