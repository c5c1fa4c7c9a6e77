use Rattle.std.proofs.Common.{◌≡◌}
use Rattle.std.specs.List.{flat_map, range_with_len}
use Rattle.graph_rule.specs.Entries.{begun_at}
use Rattle.graph_rule.proofs.entries.all_begun.Given as goal

abbrev pub invariant-loop-at : goal.invariant-loop-at
invariant-loop-at l = l.out ≡ flat_map (begun_at l.run) (range_with_len 0 l.at)
