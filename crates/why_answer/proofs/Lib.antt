pub mod PulledLemmas
pub mod AnswerLemmas
