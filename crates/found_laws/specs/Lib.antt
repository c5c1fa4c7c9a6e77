pub mod parent_laws
pub mod found_laws
