use Rattle.std.proofs.Common.{◌≡◌, length}
use Rattle.nt_bytes.specs.Folding.{folded_order}
use Rattle.nt_bytes.specs.Text.{wide_of}
use Rattle.key_index.proofs.node.compare_wide.Given as goal

abbrev pub invariant-units : goal.invariant-units
invariant-units l = folded_order (wide_of l.xs) l.ys ≡ folded_order (wide_of l.stored) l.name

abbrev pub decreases-units : goal.decreases-units
decreases-units l = length l.xs
