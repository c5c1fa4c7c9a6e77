pub mod RangeLemmas
pub mod PlaceLemmas
pub mod TakeLemmas
