pub mod GoneLemmas
pub mod GrowLemmas
pub mod FreedLemmas
pub mod SharedLemmas
pub mod RoundLemmas
pub mod WaitsLemmas
