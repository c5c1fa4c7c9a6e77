pub mod Fields
pub mod ObjectLemmas
