pub mod NameLemmas
pub mod ReduceLemmas
pub mod HeldLemmas
pub mod PlayLemmas
pub mod ListLemmas
pub mod SetLemmas
pub mod LateLemmas
pub mod MoreLemmas
