use Rattle.hive_pack.proofs.Formed.{packed_is_well_formed}
use Rattle.hive_pack.proofs.laws.packed_cells_are_well_formed.Goals as goal

pub returns : goal.returns
returns c = packed_is_well_formed
