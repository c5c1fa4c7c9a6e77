use Rattle.std.proofs.Common.{◌≡◌, take}
use Rattle.why_lacks.specs.why_lacks.Lacks.{all_keys}
use Rattle.why_lacks.proofs.why_lacks.entries.all_keys.Given as goal

abbrev pub invariant-loop-number : goal.invariant-loop-number
invariant-loop-number l = l.keys ≡ all_keys l.needs (take l.number-index l.numbers)
