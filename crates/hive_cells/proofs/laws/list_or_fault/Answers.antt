use Rattle.std.proofs.Common.{refl}
use Rattle.hive_model.specs.Bins.{spelled}
use Rattle.hive_cells.proofs.Again.{not_both}
use Rattle.hive_cells.proofs.laws.list_or_fault.Goals as goal

pub returns : goal.returns
returns c = λ bins fault h f. not_both (spelled 0 bins) bins fault h refl f
