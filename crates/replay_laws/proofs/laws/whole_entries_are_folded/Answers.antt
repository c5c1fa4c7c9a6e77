use Rattle.replay_laws.proofs.Folding.{folded}
use Rattle.replay_laws.proofs.laws.whole_entries_are_folded.Goals as goal

pub returns : goal.returns
returns c = folded
