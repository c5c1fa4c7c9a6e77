use Rattle.std.proofs.Common.{◌≡◌}
use Rattle.std.specs.Prelude.{slice_get}
use Rattle.std.specs.Option.{option_map}
use Rattle.std.specs.List.{filter_map, range_with_len}
use Rattle.service_control.specs.First.{group_rank}
use Rattle.service_control.proofs.rank.ranks.Given as goal

abbrev pub invariant-loop-place : goal.invariant-loop-place
invariant-loop-place l = l.ranks.items
    ≡ filter_map (λ p. option_map (group_rank l.orders p) (slice_get l.table p)) (range_with_len 0 l.place)
