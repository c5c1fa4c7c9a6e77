use Rattle.std.proofs.Common.{◌≡◌, map, take}
use Rattle.why_lacks.specs.why_cycle.Shared.{pair_ways}
use Rattle.why_lacks.proofs.why_cycle.shared.all_ways.Given as goal

abbrev pub invariant-loop-pair : goal.invariant-loop-pair
invariant-loop-pair l = l.ways ≡ map (pair_ways l.needs l.items.keys) (take l.pair-index l.pairs)
