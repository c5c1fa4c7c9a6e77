use Rattle.replay_laws.proofs.Writing.{left}
use Rattle.replay_laws.proofs.laws.pages_change_no_other_byte.Goals as goal

pub returns : goal.returns
returns c = left
