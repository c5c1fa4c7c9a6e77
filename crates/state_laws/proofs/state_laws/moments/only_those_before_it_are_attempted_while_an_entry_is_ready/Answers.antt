use Rattle.state_laws.proofs.MomentLemmas.{attempts_explained}
use Rattle.state_laws.proofs.state_laws.moments.only_those_before_it_are_attempted_while_an_entry_is_ready.Goals as goal

pub returns : goal.returns
returns c = attempts_explained
