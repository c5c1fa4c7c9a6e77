use Rattle.std.proofs.Common.{◌≡◌, length}
use Rattle.hive_model.specs.Size.{is_narrow}
use Rattle.cell_forms.specs.Views.{name_of}
use Rattle.cell_forms.proofs.stored.StoredName.is_low.Given as goal

abbrev pub invariant-units : goal.invariant-units
invariant-units l = is_narrow (name_of l.rest) ≡ is_narrow (name_of l.self)

abbrev pub decreases-units : goal.decreases-units
decreases-units l = length (name_of l.rest)
