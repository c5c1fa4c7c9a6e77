use Rattle.std.proofs.Common.{◌≡◌, take}
use Rattle.why_lacks.proofs.why_items.finding.listed.Given as goal

abbrev pub invariant-loop-number : goal.invariant-loop-number
invariant-loop-number l = l.out ≡ take l.number-index l.found.keys
