pub mod BootLemmas
pub mod GroupLemmas
pub mod ServiceLemmas
