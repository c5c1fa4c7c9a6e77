-- Which graph has the items and their needs, where a group in a phase is one need? (this project's own)
--
-- First the items; then the groups that one of them lacks, each once a phase, with their ways; then for each item a need that it alone
-- meets; and last a need without ways. An item leads to its open groups, and to the needs that its open services alone meet.
use Rattle.std.specs.Prelude.{ℕ, ◌+◌, nat_eq, List, [], ◌∷◌, ◌++◌, map, length, position, slice_get, Option}
use Rattle.std.specs.Option.{option_map, option_map_or, option_and_then}
use Rattle.std.specs.List.{flat_map, filter_map, range_with_len}
use Rattle.indexmap.specs.IndexSet.{insert_all}
use Rattle.why_needs.specs.declared.why_needs.members.GroupMembers.{GroupMembers}
use Rattle.why_needs.specs.declared.why_state.views.PhaseView.{PhaseView}
use Rattle.why_lacks.specs.declared.why_items.needs.NeedsRun.{NeedsRun}
use Rattle.why_lacks.specs.why_items.Items.{lacks_services, lacks_groups}
use Rattle.why_lacks.specs.why_items.Gone.{same_pair, first_place}
use Rattle.why_lacks.specs.why_lacks.Lacks.{of_entry}
use Rattle.why_lacks.specs.why_cycle.Needs.{leads_of, group_ways, places_in}

-- ---- groups

-- a group in the phase at a place, where it has members
abbrev pub pair_of : NeedsRun → ℕ → List ℕ → Option (ℕ × ℕ)
pair_of n at group = option_map (λ first. (at, first)) (first_place n at group)

-- those that an item lacks
abbrev pub pairs_of : NeedsRun → ℕ → List (ℕ × ℕ)
pairs_of n number = of_entry n (λ at v e. filter_map (pair_of n at) (lacks_groups n v e)) number

-- those that one of the items lacks, each once
abbrev pub all_pairs : NeedsRun → List ℕ → List (ℕ × ℕ)
all_pairs n items = insert_all same_pair [] (flat_map (pairs_of n) items)

-- the name of such a group, as the first of its members has it
abbrev pub pair_name : NeedsRun → ℕ × ℕ → Option (List ℕ)
pair_name n pair = option_and_then (λ (m : GroupMembers). slice_get m.groups pair.1) (slice_get n.members pair.0)

-- its ways, where it is open
abbrev pub pair_ways : NeedsRun → List ℕ → ℕ × ℕ → Option (List ℕ)
pair_ways n items pair =
    option_and_then (λ (v : PhaseView). option_and_then (λ name. option_map (places_in items) (group_ways n pair.0 v name)) (pair_name n pair))
    (slice_get n.run.views pair.0)

-- ---- needs by their numbers

-- the need of a service that leads to an item, behind that many groups
abbrev pub service_need : List ℕ → ℕ → ℕ → ℕ
service_need items groups to = length items + groups + option_map_or (λ p. p) (position (nat_eq to) items) (length items)

-- the need of a group, where it is open
abbrev pub group_need : NeedsRun → List ℕ → List (ℕ × ℕ) → List (Option (List ℕ)) → ℕ → List ℕ → Option ℕ
group_need n items pairs ways at group =
    option_and_then (λ first. option_and_then (λ i. option_map (λ (to : List ℕ). length items + i) (option_and_then (λ o. o) (slice_get ways i)))
    (position (same_pair (at, first)) pairs)) (first_place n at group)

-- the needs of an item
abbrev pub item_row : NeedsRun → List ℕ → List (ℕ × ℕ) → List (Option (List ℕ)) → ℕ → List ℕ
item_row n items pairs ways number =
    of_entry n (λ at v e.
    map (service_need items (length pairs)) (leads_of n at v (lacks_services n v e))
    ++ filter_map (group_need n items pairs ways at) (lacks_groups n v e)) number

-- ---- the graph

abbrev pub ways_or_none : Option (List ℕ) → List ℕ
ways_or_none o = option_map_or (λ (to : List ℕ). to) o []

abbrev pub rows_with : NeedsRun → List ℕ → List (ℕ × ℕ) → List (Option (List ℕ)) → List (List ℕ)
rows_with n items pairs ways =
    map (item_row n items pairs ways) items ++ map ways_or_none ways ++ map (λ p. p ∷ []) (range_with_len 0 (length items)) ++ [] ∷ []

abbrev pub shared_rows : NeedsRun → List ℕ → List (List ℕ)
shared_rows n items = rows_with n items (all_pairs n items) (map (pair_ways n items) (all_pairs n items))
