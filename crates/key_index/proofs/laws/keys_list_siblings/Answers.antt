use Rattle.key_index.proofs.Meeting.{siblings_stand}
use Rattle.key_index.proofs.laws.keys_list_siblings.Goals as goal

pub returns : goal.returns
returns c = siblings_stand
