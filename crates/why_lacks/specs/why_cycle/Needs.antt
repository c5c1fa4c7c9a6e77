-- Which items do the open lacks of an item lead to? (this project's own)
--
-- A lack is open where items alone keep it from being met: a name that is unmet, and a group that has members, all of which are unmet.
-- Each is a need of the item; the items that it leads to are its ways.
use Rattle.std.specs.Prelude.{ℕ, nat_lt, nat_eq, ◌==◌, ◌&&◌, List, [], ◌∷◌, ◌++◌, map, length, position, Option, None, Some, if◌then◌else◌}
use Rattle.std.specs.List.{filter_map}
use Rattle.start_model.specs.Entries.{Entry}
use Rattle.why_needs.specs.declared.why_state.views.PhaseView.{PhaseView}
use Rattle.why_lacks.specs.declared.why_items.needs.NeedsRun.{NeedsRun}
use Rattle.why_lacks.specs.why_items.Items.{lacks_services, lacks_groups, members_at, leads}
use Rattle.why_lacks.specs.why_lacks.Lacks.{of_entry}

-- where the names lead: those that are unmet lead to items
abbrev pub leads_of : NeedsRun → ℕ → PhaseView → List (List ℕ) → List ℕ
leads_of n at v names = filter_map (leads n at v) names

-- a group of that many members leads to items: it is open where there are members, and each leads to one
abbrev pub if_open : ℕ → List ℕ → Option (List ℕ)
if_open count to = if nat_lt 0 count && (length to == count) then Some to else None

-- the ways of a group, where it is open
abbrev pub group_ways : NeedsRun → ℕ → PhaseView → List ℕ → Option (List ℕ)
group_ways n at v group = if_open (length (members_at n at group)) (leads_of n at v (members_at n at group))

-- the needs of an entry, by its phase: first its open services, with one way each, and then its open groups
abbrev pub needs_in : NeedsRun → ℕ → PhaseView → Entry → List (List ℕ)
needs_in n at v e =
    map (λ to. to ∷ []) (leads_of n at v (lacks_services n v e)) ++ filter_map (group_ways n at v) (lacks_groups n v e)

-- the same by the entry's number
abbrev pub needs_of : NeedsRun → ℕ → List (List ℕ)
needs_of n number = of_entry n (needs_in n) number

-- ---- by places among these items, which have all that they lead to

abbrev pub places_in : List ℕ → List ℕ → List ℕ
places_in items numbers = filter_map (λ number. position (nat_eq number) items) numbers

-- the needs of an item
abbrev pub waits_at : NeedsRun → List ℕ → ℕ → List (List ℕ)
waits_at n items number = map (places_in items) (needs_of n number)

-- those of each
abbrev pub waits_of : NeedsRun → List ℕ → List (List (List ℕ))
waits_of n items = map (waits_at n items) items
