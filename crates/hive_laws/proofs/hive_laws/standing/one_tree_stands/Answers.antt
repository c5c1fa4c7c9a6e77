use Rattle.hive_read.proofs.One as one
use Rattle.hive_laws.proofs.hive_laws.standing.one_tree_stands.Goals as goal

pub returns : goal.returns
returns c = one.one_stands
