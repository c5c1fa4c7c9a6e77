pub mod TextLemmas
pub mod PathLemmas
pub mod QuoteLemmas
pub mod LineFeedLemmas
pub mod ObjectLemmas
