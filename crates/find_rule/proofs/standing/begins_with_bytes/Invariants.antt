use Rattle.std.proofs.Common.{◌≡◌, length}
use Rattle.find_rule.specs.Matching.{begins_with}
use Rattle.find_rule.proofs.standing.begins_with_bytes.Given as goal

abbrev pub invariant-bytes : goal.invariant-bytes
invariant-bytes l = begins_with l.xs l.ys ≡ begins_with l.bytes l.whole

abbrev pub decreases-bytes : goal.decreases-bytes
decreases-bytes l = length l.xs
