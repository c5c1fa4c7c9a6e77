pub mod ChangeLemmas
pub mod IndexLemmas
pub mod NamedLemmas
pub mod SearchLemmas
