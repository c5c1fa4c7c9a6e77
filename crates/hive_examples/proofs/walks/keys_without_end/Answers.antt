use Rattle.hive_examples.proofs.Deep.{keys_end}
use Rattle.hive_examples.proofs.walks.keys_without_end.Goals as goal

pub returns : goal.returns
returns c = keys_end
