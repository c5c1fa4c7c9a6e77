use Rattle.std.proofs.Common.{◌≡◌, take}
use Rattle.std.specs.Prelude.{slice_get}
use Rattle.std.specs.Option.{option_map}
use Rattle.std.specs.List.{filter_map}
use Rattle.start_model.specs.Order.{rank_of}
use Rattle.boot_phases.proofs.boot_phases.rank.ranks_at.Given as goal

abbrev pub invariant-loop-place : goal.invariant-loop-place
invariant-loop-place l = l.ranks.items
    ≡ filter_map (λ p. option_map (rank_of l.orders l.tags_count p) (slice_get l.table p)) (take l.place-index l.places)
