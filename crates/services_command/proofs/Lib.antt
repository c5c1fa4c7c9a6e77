pub mod EntryLemmas
pub mod SaidLemmas
pub mod SetLemmas
