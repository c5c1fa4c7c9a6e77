use Rattle.std.proofs.Common.{◌≡◌, length}
use Rattle.nt_bytes.specs.Folding.{folded_order}
use Rattle.key_index.proofs.node.compare_narrow.Given as goal

abbrev pub invariant-units : goal.invariant-units
invariant-units l = folded_order l.xs l.ys ≡ folded_order l.stored l.name

abbrev pub decreases-units : goal.decreases-units
decreases-units l = length l.xs
