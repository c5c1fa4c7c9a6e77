pub mod BaseLemmas
pub mod Spelling
pub mod HeldLemmas
pub mod UsedOnce
