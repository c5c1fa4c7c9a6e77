mod LineLemmas
pub mod ObjectLemmas
