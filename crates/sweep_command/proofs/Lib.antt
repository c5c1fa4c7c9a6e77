pub mod EndLemmas
pub mod CommittedLemmas
pub mod PlayLemmas
pub mod AnswerLemmas
pub mod EventLemmas
pub mod LastLemmas
pub mod SweptLemmas
