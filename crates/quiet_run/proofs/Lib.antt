pub mod WordLemmas
pub mod SetLemmas
pub mod EditLemmas
pub mod TryLemmas
pub mod SaveLemmas
pub mod CaseLemmas
pub mod BeginLemmas
pub mod StepLemmas
