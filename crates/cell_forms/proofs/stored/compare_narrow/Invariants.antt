use Rattle.std.proofs.Common.{◌≡◌, length}
use Rattle.nt_bytes.specs.Folding.{folded_order}
use Rattle.cell_forms.proofs.stored.compare_narrow.Given as goal

abbrev pub invariant-bytes : goal.invariant-bytes
invariant-bytes l = folded_order l.xs l.ys ≡ folded_order l.a l.b

abbrev pub decreases-bytes : goal.decreases-bytes
decreases-bytes l = length l.xs
