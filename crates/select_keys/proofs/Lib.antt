pub mod NameLemmas
pub mod NumberLemmas
pub mod StepLemmas
pub mod FitLemmas
pub mod SetLemmas
