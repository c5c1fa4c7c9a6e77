use Rattle.key_index.proofs.Meeting.{lists_apart}
use Rattle.key_index.proofs.laws.lists_are_apart.Goals as goal

pub returns : goal.returns
returns c = lists_apart
