use Rattle.std.proofs.Common.{◌≡◌, ℕ, List}
use Rattle.std.specs.Option.{option_map}
use Rattle.std.specs.List.{filter_map, range_with_len}
use Rattle.why_needs.specs.why_needs.Met.{group_at}
use Rattle.why_needs.proofs.why_needs.met.starts_at.Given as goal

abbrev pub invariant-loop-at : goal.invariant-loop-at
invariant-loop-at l = l.row ≡ filter_map (λ k. option_map (λ (group : List ℕ). k) (group_at l.run k)) (range_with_len 0 l.at)
