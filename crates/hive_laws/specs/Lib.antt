pub mod hive_laws
pub mod saved_laws
pub mod packing_laws
