-- Which needs of an entry were not met by the first attempts? (this project's own)
use Rattle.std.specs.Prelude.{ℕ, nat_eq, Bool, false, not, ◌&&◌, List, length, slice_get, Option, None, Some, if◌then◌else◌}
use Rattle.std.specs.Option.{option_map_or, option_and_then}
use Rattle.std.specs.List.{filter_map, range_with_len}
use Rattle.why_needs.specs.declared.why_state.views.ViewedRun.{ViewedRun}
use Rattle.why_needs.specs.why_state.States.{place_in}
use Rattle.why_needs.specs.declared.why_needs.met.GroupStarts.{GroupStarts}
use Rattle.why_needs.specs.why_needs.Met.{service_met, group_met, is_met}

-- no name before this place folds as the one there does
abbrev pub is_first : List (List ℕ) → ℕ → List ℕ → Bool
is_first names at name = option_map_or (nat_eq at) (place_in names name) false

-- the name at a place, where it stands there first and fails the test
abbrev pub lacking_at : (List ℕ → Bool) → List (List ℕ) → ℕ → Option (List ℕ)
lacking_at passes names at =
    option_and_then (λ name. if is_first names at name && not (passes name) then Some name else None) (slice_get names at)

-- the names that fail a test, each folded name once, in their order
abbrev pub lacking : (List ℕ → Bool) → List (List ℕ) → List (List ℕ)
lacking passes names = filter_map (lacking_at passes names) (range_with_len 0 (length names))

-- the names that were not started by the first attempts
abbrev pub lacking_services : ViewedRun → ℕ → List (List ℕ) → List (List ℕ)
lacking_services r n names = lacking (λ name. is_met n (service_met r name)) names

-- the groups without a member that was
abbrev pub lacking_groups : GroupStarts → ℕ → List (List ℕ) → List (List ℕ)
lacking_groups g n names = lacking (λ name. is_met n (group_met g name)) names
