pub mod Fields
pub mod PartLemmas
pub mod EndLemmas
pub mod ObjectLemmas
