use Rattle.run_parts.proofs.ChainLemmas.{commit-seen}
use Rattle.run_parts.proofs.printed_parts.a_commit_between_two_wakes_is_seen.Goals as goal

pub returns : goal.returns
returns c = λ first second woken old new last tree u v loaded edits p q leads.
    commit-seen first second woken old new last tree u v loaded edits p q leads
