pub mod run_laws
pub mod rest_laws
pub mod last_laws
pub mod commit_laws
