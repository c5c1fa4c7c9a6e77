pub mod FindingLemmas
pub mod KeyLemmas
