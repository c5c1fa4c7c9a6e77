pub mod TurnLemmas
pub mod SortLemmas
