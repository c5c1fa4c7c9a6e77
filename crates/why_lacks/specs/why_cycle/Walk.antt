-- Which items does a walk among those that aren't freed go round? (this project's own)
use Rattle.std.specs.Prelude.{ℕ, zero, suc, ◌+◌, nat_eq, Bool, not, List, [], ◌∷◌, ◌++◌, length, drop, find, position, slice_get, Option, if◌then◌else◌}
use Rattle.std.specs.Option.{option_map_or, option_and_then}
use Rattle.std.specs.List.{list_any}
use Rattle.wait_cycles.specs.Waits.{needs_at}

-- a step from an item: to the first way of its first need without a freed way
abbrev pub step : List (List (List ℕ)) → (ℕ → Bool) → ℕ → Option ℕ
step waits freed p = option_and_then (λ ways. slice_get ways 0) (find (λ ways. not (list_any freed ways)) (needs_at waits p))

-- A walk reaches an item, after those of the path. Where it was there before, it went round the items from there on;
-- else it goes on, for at most that many items
unfoldable pub gone_round : (ℕ → Option ℕ) → ℕ → List ℕ → ℕ → List ℕ
gone_round next zero path p = []
gone_round next (suc n) path p =
    option_map_or (λ at. drop at path) (position (nat_eq p) path) (option_map_or (gone_round next n (path ++ p ∷ [])) (next p) [])

-- The items that a walk from the first one goes round, from the one on to which it comes back; none where the first is freed.
-- It has come back when it reaches one item more than there are
abbrev pub cycle_of : List (List (List ℕ)) → (ℕ → Bool) → List ℕ
cycle_of waits freed = if freed 0 then [] else gone_round (step waits freed) (length waits + 1) [] 0
