use Rattle.std.proofs.Common.{◌≡◌, List, ℕ, not, filter, take}
use Rattle.std.specs.Option.{is_some}
use Rattle.why_needs.specs.why_state.States.{place_in}
use Rattle.graph_rule.proofs.parts.without.Given as goal

abbrev pub invariant-loop-name : goal.invariant-loop-name
invariant-loop-name l = l.out ≡ filter (λ (name : List ℕ). not (is_some (place_in l.others name))) (take l.name-index l.names)
