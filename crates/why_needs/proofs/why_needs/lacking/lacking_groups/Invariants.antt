use Rattle.std.proofs.Common.{◌≡◌}
use Rattle.std.specs.List.{filter_map, range_with_len}
use Rattle.why_needs.specs.why_needs.Met.{group_met, is_met}
use Rattle.why_needs.specs.why_needs.Lacking.{lacking_at}
use Rattle.why_needs.proofs.why_needs.lacking.lacking_groups.Given as goal

abbrev pub invariant-loop-at : goal.invariant-loop-at
invariant-loop-at l = l.left ≡ filter_map (lacking_at (λ name. is_met l.n (group_met l.starts name)) l.names) (range_with_len 0 l.at)
