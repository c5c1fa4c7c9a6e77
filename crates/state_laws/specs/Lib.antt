pub mod state_laws
pub mod held_laws
pub mod enough_laws
