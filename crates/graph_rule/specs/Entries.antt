-- Which entries does the graph of a start have, and in which order? (this project's own)
--
-- Each folded name has one: that of the last plan that has it, or else that of the set as it is in the end.
use Rattle.std.specs.Prelude.{ℕ, nat_lt, ◌==◌, Bool, false, List, [], ◌++◌, filter, length, slice_get, Option, if◌then◌else◌}
use Rattle.std.specs.Option.{option_map_or, option_and_then, option_or}
use Rattle.std.specs.List.{filter_map, flat_map, range_with_len}
use Rattle.start_model.specs.Entries.{Entry, entries_of}
use Rattle.start_model.specs.Order.{first_names}
use Rattle.why_needs.specs.declared.why_state.views.PhaseView.{PhaseView}
use Rattle.why_needs.specs.declared.why_state.views.ViewedRun.{ViewedRun}
use Rattle.why_needs.specs.why_state.Views.{names_of}
use Rattle.why_needs.specs.why_state.States.{place_in, placed_of}
use Rattle.why_needs.specs.why_needs.Met.{entry_at}

-- ---- the phases that began

-- the last plan that has the name is that of the phase at a place
abbrev pub is_placed_at : ViewedRun → ℕ → List ℕ → Bool
is_placed_at r at name = option_map_or (λ (place : ℕ × ℕ). place.0 == at) (placed_of r name) false

-- the names of a phase: first those that it attempted, in their order, and then its plan
abbrev pub begun_names : ViewedRun → ℕ → PhaseView → List (List ℕ)
begun_names r at v = filter (is_placed_at r at) r.tried ++ filter (is_placed_at r at) v.names

abbrev pub begun_at : ViewedRun → ℕ → List (List ℕ)
begun_at r at = option_map_or (begun_names r at) (slice_get r.views at) []

-- ---- the phases that did not begin

-- what the phase of a number takes of the set as it is in the end, where it did not begin
abbrev pub unbegun : ViewedRun → ℕ → List (List ℕ) → List (List ℕ)
unbegun r number names = if nat_lt number (length r.views) then [] else names

abbrev pub coming_names : ViewedRun → List (List ℕ)
coming_names r = unbegun r 0 r.coming.boot ++ unbegun r 1 r.coming.system ++ unbegun r 2 r.coming.automatic

-- ---- all

-- phase by phase, and then all entries of the set in registry order; a name may be there again
abbrev pub all_names : ViewedRun → List Entry → List (List ℕ)
all_names r es = flat_map (begun_at r) (range_with_len 0 (length r.views)) ++ coming_names r ++ names_of es

-- the entry of the last plan that has the name
abbrev pub in_plan : ViewedRun → List ℕ → Option Entry
in_plan r name = option_and_then (entry_at r) (placed_of r name)

-- the entry of a set that has the name, where these are its entries with their names
abbrev pub in_set : List Entry → List (List ℕ) → List ℕ → Option Entry
in_set es names name = option_and_then (slice_get es) (place_in names name)

abbrev pub entry_named : ViewedRun → List Entry → List (List ℕ) → List ℕ → Option Entry
entry_named r es names name = option_or (in_plan r name) (in_set es names name)

-- each folded name once, where it is first
abbrev pub entries_by : ViewedRun → List Entry → List Entry
entries_by r es = filter_map (entry_named r es (names_of es)) (first_names (all_names r es))

abbrev pub entries_in : ViewedRun → List Entry
entries_in r = entries_by r (entries_of r.run.set)
