use Rattle.std.proofs.Common.{◌≡◌, take}
use Rattle.why_lacks.specs.why_cycle.Shared.{all_pairs}
use Rattle.why_lacks.proofs.why_cycle.shared.all_pairs.Given as goal

abbrev pub invariant-loop-number : goal.invariant-loop-number
invariant-loop-number l = l.pairs.keys ≡ all_pairs l.needs (take l.number-index l.items.keys)
