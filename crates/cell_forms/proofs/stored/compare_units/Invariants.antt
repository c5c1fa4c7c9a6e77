use Rattle.std.proofs.Common.{◌≡◌, length}
use Rattle.nt_bytes.specs.Folding.{folded_order}
use Rattle.cell_forms.specs.Views.{name_of}
use Rattle.cell_forms.proofs.stored.compare_units.Given as goal

abbrev pub invariant-units : goal.invariant-units
invariant-units l = folded_order (name_of l.xs) (name_of l.ys) ≡ folded_order (name_of l.a) (name_of l.b)

abbrev pub decreases-units : goal.decreases-units
decreases-units l = length (name_of l.xs)
