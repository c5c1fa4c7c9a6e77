use Rattle.std.proofs.Common.{◌≡◌, length}
use Rattle.nt_bytes.specs.Folding.{folded}
use Rattle.find_rule.specs.Matching.{begins_with}
use Rattle.find_rule.proofs.standing.begins_with_text.Given as goal

abbrev pub invariant-units : goal.invariant-units
invariant-units l = begins_with (folded l.xs) (folded l.ys) ≡ begins_with (folded l.text) (folded l.units)

abbrev pub decreases-units : goal.decreases-units
decreases-units l = length l.xs
