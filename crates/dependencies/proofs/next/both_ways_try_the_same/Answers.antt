use Rattle.dependencies.proofs.PickedLemmas.{both_ways}
use Rattle.dependencies.proofs.next.both_ways_try_the_same.Goals as goal

pub returns : goal.returns
returns c = both_ways
