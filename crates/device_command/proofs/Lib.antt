mod ToldLemmas
pub mod KeyLemmas
