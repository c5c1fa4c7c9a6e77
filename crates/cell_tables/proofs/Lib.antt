pub mod TopLemmas
pub mod OverlayLemmas
pub mod TableLemmas
pub mod CoveredLemmas
