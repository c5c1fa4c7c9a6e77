pub mod diff_laws
pub mod tree_laws
pub mod boot_laws
pub mod turned_laws
