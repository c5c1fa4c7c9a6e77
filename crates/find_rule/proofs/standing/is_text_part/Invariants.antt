use Rattle.std.proofs.Common.{◌≡◌, length}
use Rattle.nt_bytes.specs.Folding.{folded}
use Rattle.find_rule.specs.Matching.{is_part}
use Rattle.find_rule.proofs.standing.is_text_part.Given as goal

abbrev pub invariant-places : goal.invariant-places
invariant-places l = is_part (folded l.text) (folded l.rest) ≡ is_part (folded l.text) (folded l.units)

abbrev pub decreases-places : goal.decreases-places
decreases-places l = length l.rest
