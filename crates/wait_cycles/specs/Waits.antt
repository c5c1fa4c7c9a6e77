-- Which of several places wait for one another, in a cycle?
--
-- Each place has needs, and each need has ways: places, any of which meets it. (this project's own)
use Rattle.std.specs.Prelude.{ℕ, Bool, false, not, ◌&&◌, ◌||◌, nat_eq, List, [], ◌∷◌, filter, length, slice_get, slice_index_or, if◌then◌else◌}
use Rattle.std.specs.Option.{option_map_or}
use Rattle.std.specs.List.{list_any, list_all, flat_map, range_with_len}
use Rattle.start_model.specs.Demand.{member, all_sets}

-- the needs of a place, each by its ways
abbrev pub needs_at : List (List (List ℕ)) → ℕ → List (List ℕ)
needs_at waits p = slice_index_or waits p []

-- the place has a need all of whose ways are in the set
abbrev pub is_held : List (List (List ℕ)) → (ℕ → Bool) → ℕ → Bool
is_held waits set p = list_any (λ ways. list_all set ways) (needs_at waits p)

-- so has each place of the set
abbrev pub holds_itself : List (List (List ℕ)) → (ℕ → Bool) → Bool
holds_itself waits set = list_all (λ p. not (set p) || is_held waits set p) (range_with_len 0 (length waits))

-- the place is stuck: it is in such a set, and so in the greatest one
unfoldable pub is_stuck : List (List (List ℕ)) → ℕ → Bool
is_stuck waits p = list_any (λ s. holds_itself waits (member s) && member s p) (all_sets (length waits))

-- a place leads to the ways of each of its needs all of whose ways are stuck; one that has such a need is stuck itself
abbrev pub leads : List (List (List ℕ)) → ℕ → ℕ → Bool
leads waits p q = list_any (λ ways. list_all (is_stuck waits) ways && list_any (nat_eq q) ways) (needs_at waits p)

-- one of the places below n in the set, or p, has a step to q
abbrev pub is_next : (ℕ → ℕ → Bool) → ℕ → ℕ → (ℕ → Bool) → ℕ → Bool
is_next step n p set q = step p q || list_any (λ m. set m && step m q) (range_with_len 0 n)

-- the set has each place to which there is a step from p or from one of its own places
abbrev pub is_closed_from : (ℕ → ℕ → Bool) → ℕ → ℕ → (ℕ → Bool) → Bool
is_closed_from step n p set = list_all (λ q. not (is_next step n p set q) || set q) (range_with_len 0 n)

-- one or more steps lead from p to q: q is in each such set of the places below n
unfoldable pub comes_to : (ℕ → ℕ → Bool) → ℕ → ℕ → ℕ → Bool
comes_to step n p q = list_all (λ s. not (is_closed_from step n p (member s)) || member s q) (all_sets n)

-- each of the two leads to the other, over any number of steps from one
abbrev pub are_in_cycle : List (List (List ℕ)) → ℕ → ℕ → Bool
are_in_cycle waits p q = comes_to (leads waits) (length waits) p q && comes_to (leads waits) (length waits) q p

-- the places that are in one cycle with p, rising: p too, unless it is in none
abbrev pub cycle_of : List (List (List ℕ)) → ℕ → List ℕ
cycle_of waits p = filter (are_in_cycle waits p) (range_with_len 0 (length waits))

-- the list begins with this place
abbrev pub begins_with : ℕ → List ℕ → Bool
begins_with p places = option_map_or (nat_eq p) (slice_get places 0) false

-- the cycle that p is the first of
abbrev pub cycle_from : List (List (List ℕ)) → ℕ → List (List ℕ)
cycle_from waits p = if begins_with p (cycle_of waits p) then cycle_of waits p ∷ [] else []

-- the cycles, in the order of their first places
unfoldable pub cycles_of : List (List (List ℕ)) → List (List ℕ)
cycles_of waits = flat_map (cycle_from waits) (range_with_len 0 (length waits))
