-- Which of several items are freed? (this project's own)
--
-- An item has needs, and a need has ways: items, any of which meets it. Items stand for their places in a list.
use Rattle.std.specs.Prelude.{ℕ, Bool, not, ◌||◌, List, length}
use Rattle.std.specs.List.{list_any, list_all, range_with_len}
use Rattle.start_model.specs.Demand.{member, all_sets}
use Rattle.wait_cycles.specs.Waits.{needs_at}

-- each need of the item has a way in the set
abbrev pub frees : List (List (List ℕ)) → (ℕ → Bool) → ℕ → Bool
frees waits set p = list_all (λ ways. list_any set ways) (needs_at waits p)

-- the set has each item that it frees
abbrev pub has_freed : List (List (List ℕ)) → (ℕ → Bool) → Bool
has_freed waits set = list_all (λ p. not (frees waits set p) || set p) (range_with_len 0 (length waits))

-- the item is freed: it is in the least such set, and so in each
unfoldable pub is_freed : List (List (List ℕ)) → ℕ → Bool
is_freed waits p = list_all (λ s. not (has_freed waits (member s)) || member s p) (all_sets (length waits))
