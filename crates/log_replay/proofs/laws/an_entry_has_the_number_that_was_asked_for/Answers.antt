use Rattle.log_replay.proofs.Numbers.{numbered_is}
use Rattle.log_replay.proofs.laws.an_entry_has_the_number_that_was_asked_for.Goals as goal

pub returns : goal.returns
returns c = numbered_is
