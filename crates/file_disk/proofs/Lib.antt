mod CallLemmas
mod CauseLemmas
mod GivenLemmas
