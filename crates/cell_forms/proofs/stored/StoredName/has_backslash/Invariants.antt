use Rattle.std.proofs.Common.{◌≡◌, length}
use Rattle.std.specs.List.{list_any}
use Rattle.nt_bytes.specs.Text.{is_backslash}
use Rattle.cell_forms.specs.Views.{name_of}
use Rattle.cell_forms.proofs.stored.StoredName.has_backslash.Given as goal

abbrev pub invariant-units : goal.invariant-units
invariant-units l = list_any is_backslash (name_of l.rest) ≡ list_any is_backslash (name_of l.self)

abbrev pub decreases-units : goal.decreases-units
decreases-units l = length (name_of l.rest)
