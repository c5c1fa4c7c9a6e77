mod DigitLemmas
mod FitLemmas
mod FourLemmas
mod PairLemmas
mod QuoteLemmas
pub mod ReadLemmas
mod StringLemmas
