pub mod RunLemmas
pub mod MakeLemmas
pub mod UsualLemmas
pub mod CountedLemmas
pub mod SavedLemmas
pub mod TopLemmas
pub mod GoodLemmas
pub mod UnreadLemmas
