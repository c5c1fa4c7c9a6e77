pub mod WordLemmas
pub mod SpellingLemmas
pub mod EventLemmas
pub mod ScriptLemmas
pub mod AskLemmas
pub mod QuietLemmas
pub mod SweepLemmas
