pub mod AwakeLemmas
pub mod TextLemmas
pub mod TwinnedLemmas
