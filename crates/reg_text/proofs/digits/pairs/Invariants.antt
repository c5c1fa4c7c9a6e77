use Rattle.std.proofs.Common.{◌≡◌, length}
use Rattle.reg_text.specs.Digits.{with_bytes, pairs_of}
use Rattle.reg_text.proofs.digits.pairs.Given as goal

abbrev pub invariant-pairs : goal.invariant-pairs
invariant-pairs l = with_bytes l.bytes (pairs_of l.rest) ≡ pairs_of l.text

abbrev pub decreases-pairs : goal.decreases-pairs
decreases-pairs l = length l.rest
