pub mod LoadingCalls
pub mod MendingLemmas
pub mod EndLemmas
