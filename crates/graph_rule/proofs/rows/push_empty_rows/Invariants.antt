use Rattle.std.proofs.Common.{◌≡◌, List, ℕ, [], ◌++◌, map, take}
use Rattle.graph_rule.proofs.rows.push_empty_rows.Given as goal

abbrev pub invariant-loop-name : goal.invariant-loop-name
invariant-loop-name l = l.rows ≡ l.initial.rows ++ map (λ (name : List ℕ). []) (take l._name-index l.names)
