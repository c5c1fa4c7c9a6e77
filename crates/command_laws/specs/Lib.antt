pub mod safe_laws
pub mod control_laws
pub mod twin_laws
pub mod import_laws
pub mod reason_laws
pub mod run_examples
