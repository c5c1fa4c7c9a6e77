use Rattle.start_laws.proofs.BeginLemmas.{begin_of-begins}
use Rattle.start_laws.proofs.changes.a_beginning_keeps_last_known_good.Goals as goal

pub returns : goal.returns
returns c = begin_of-begins
