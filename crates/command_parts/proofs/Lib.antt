pub mod AskLemmas
pub mod LeaveLemmas
pub mod SeekLemmas
pub mod PlacedLemmas
pub mod SaveLemmas
pub mod DecideLemmas
pub mod SearchLemmas
