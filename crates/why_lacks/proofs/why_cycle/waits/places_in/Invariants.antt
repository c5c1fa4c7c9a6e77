use Rattle.std.proofs.Common.{◌≡◌, take}
use Rattle.why_lacks.specs.why_cycle.Needs.{places_in}
use Rattle.why_lacks.proofs.why_cycle.waits.places_in.Given as goal

abbrev pub invariant-loop-number : goal.invariant-loop-number
invariant-loop-number l = l.out ≡ places_in l.items.keys (take l.number-index l.numbers)
