use Rattle.start_laws.proofs.FrontLemmas.{part_of-front}
use Rattle.start_laws.proofs.fronts.more_events_go_on.Goals as goal

pub returns : goal.returns
returns c = part_of-front
