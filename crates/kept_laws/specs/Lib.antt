pub mod good_laws
pub mod logon_laws
pub mod order_laws
pub mod vital_laws
