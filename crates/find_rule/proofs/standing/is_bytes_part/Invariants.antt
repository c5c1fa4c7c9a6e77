use Rattle.std.proofs.Common.{◌≡◌, length}
use Rattle.find_rule.specs.Matching.{is_part}
use Rattle.find_rule.proofs.standing.is_bytes_part.Given as goal

abbrev pub invariant-places : goal.invariant-places
invariant-places l = is_part l.bytes l.rest ≡ is_part l.bytes l.whole

abbrev pub decreases-places : goal.decreases-places
decreases-places l = length l.rest
