use Rattle.hive_pack.proofs.Standing.{packed_stands}
use Rattle.hive_pack.proofs.laws.packed_tree_stands.Goals as goal

pub returns : goal.returns
returns c = packed_stands
