use Rattle.std.proofs.Common.{◌≡◌, ℕ, nat_eq, ◌||◌, map}
use Rattle.std.specs.List.{range_with_len}
use Rattle.start_model.specs.Demand.{member}
use Rattle.graph_rule.proofs.marks.either.Given as goal

abbrev pub invariant-loop-at : goal.invariant-loop-at
invariant-loop-at l =
    l.marks.items ≡ map (λ (at : ℕ). nat_eq l.start at || (member l.on at || member l.to at)) (range_with_len 0 l.at)
