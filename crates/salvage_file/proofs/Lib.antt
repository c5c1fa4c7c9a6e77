pub mod PartLemmas
pub mod KeyLemmas
pub mod FileLemmas
pub mod ParentLemmas
