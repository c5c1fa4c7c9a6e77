pub mod ChangeLemmas
pub mod HereLemmas
pub mod NamedLemmas
pub mod SlotLemmas
