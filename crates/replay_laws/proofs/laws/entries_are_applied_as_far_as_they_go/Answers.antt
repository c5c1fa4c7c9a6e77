use Rattle.replay_laws.proofs.Folding.{ends}
use Rattle.replay_laws.proofs.laws.entries_are_applied_as_far_as_they_go.Goals as goal

pub returns : goal.returns
returns c = ends
