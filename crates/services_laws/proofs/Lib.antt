pub mod WholeLemmas
pub mod StandsLemmas
pub mod StartedLemmas
pub mod MarkedLemmas
pub mod AgreesLemmas
pub mod TimeLemmas
