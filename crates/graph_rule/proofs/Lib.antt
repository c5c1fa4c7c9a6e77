pub mod GatherLemmas
pub mod EdgeLemmas
pub mod ShownLemmas
