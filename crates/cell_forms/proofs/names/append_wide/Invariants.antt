use Rattle.std.proofs.Common.{◌≡◌, ◌++◌, length}
use Rattle.hive_model.specs.StoredNames.{wide_text}
use Rattle.cell_forms.proofs.names.append_wide.Given as goal

abbrev pub invariant-pairs : goal.invariant-pairs
invariant-pairs l = l.out ++ wide_text l.rest ≡ l.fn.out ++ wide_text l.units

abbrev pub decreases-pairs : goal.decreases-pairs
decreases-pairs l = length l.rest
