pub mod ListLemmas
pub mod MatchLemmas
pub mod PlaceLemmas
pub mod FoundLemmas
pub mod NarrowLemmas
pub mod CaseLemmas
pub mod KeyLemmas
pub mod JsonLemmas
