use Rattle.replay_laws.proofs.Counting.{ends_for_good}
use Rattle.replay_laws.proofs.laws.entries_are_applied_to_the_last.Goals as goal

pub returns : goal.returns
returns c = ends_for_good
