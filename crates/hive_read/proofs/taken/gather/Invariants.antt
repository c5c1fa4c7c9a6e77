use Rattle.std.proofs.Common.{◌≡◌, ℕ, Bool, List, map, ◌||◌, length}
use Rattle.std.specs.List.{list_any}
use Rattle.hive_read.specs.Taken.{folded_name}
use Rattle.hive_read.proofs.taken.gather.Given as goal

abbrev pub invariant-names : goal.invariant-names
invariant-names l = (p : List ℕ → Bool) →
    (list_any p (map (λ k. folded_name k.name) l.set.keys) || list_any p (map folded_name l.rest))
    ≡ (list_any p (map (λ k. folded_name k.name) l.fn.set.keys) || list_any p (map folded_name l.names))

abbrev pub decreases-names : goal.decreases-names
decreases-names l = length l.rest
