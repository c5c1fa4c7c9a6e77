pub mod FilterLemmas
pub mod FoldLemmas
pub mod PlaceLemmas
pub mod OrderLemmas
