-- Which unmet entries do an unmet entry's needs lead to? (this project's own)
--
-- An item is an entry of a plan, by its number, that waited when its phase ended.
use Rattle.std.specs.Prelude.{ℕ, zero, suc, ◌+◌, nat_eq, List, [], ◌∷◌, ◌++◌, map, slice_get, Option, None, Some}
use Rattle.std.specs.Option.{option_map_or}
use Rattle.std.specs.List.{filter_map, flat_map}
use Rattle.indexmap.specs.IndexSet.{insert_all}
use Rattle.start_model.specs.Entries.{Entry}
use Rattle.quiet_run.specs.declared.last.BegunPhase.{BegunPhase}
use Rattle.answer_lines.specs.declared.why_lines.lines.NeedState.{NeedState}
use Rattle.answer_lines.specs.declared.why_lines.lines.NeedState.TheVariants as needs
use Rattle.why_needs.specs.declared.why_state.views.PhaseView.{PhaseView}
use Rattle.why_needs.specs.declared.why_state.views.ViewedRun.{ViewedRun}
use Rattle.why_needs.specs.why_state.States.{placed_below, need_of}
use Rattle.why_needs.specs.declared.why_needs.members.GroupMembers.{GroupMembers}
use Rattle.why_needs.specs.why_needs.Met.{starts_of}
use Rattle.why_needs.specs.why_needs.Lacking.{lacking_services, lacking_groups}
use Rattle.why_needs.specs.why_needs.Members.{members_of, members_in}
use Rattle.why_lacks.specs.declared.why_items.needs.NeedsRun.{NeedsRun}
use Rattle.why_lacks.specs.why_items.Vertices.{entry_count, number_of, places_from}

-- a run with what its needs are looked up in: the members of groups are those of the set that each phase read
unfoldable pub needs_run_of : ViewedRun → NeedsRun
needs_run_of r = record {
  starts = starts_of r;
  members = map (λ (p : BegunPhase). members_of p.set) r.run.start.phases;
  run = r;
}

-- ---- what an entry lacks, by the phase that it is in

abbrev pub lacks_services : NeedsRun → PhaseView → Entry → List (List ℕ)
lacks_services n v e = lacking_services n.run v.end e.services

abbrev pub lacks_groups : NeedsRun → PhaseView → Entry → List (List ℕ)
lacks_groups n v e = lacking_groups n.starts v.end e.groups

-- the members of a group, in the set that the phase at a place read
abbrev pub members_at : NeedsRun → ℕ → List ℕ → List (List ℕ)
members_at n at group = option_map_or (λ (m : GroupMembers). members_in m group) (slice_get n.members at) []

-- the lacking names, and then the members of the lacking groups
abbrev pub wanted : NeedsRun → ℕ → PhaseView → Entry → List (List ℕ)
wanted n at v e = lacks_services n v e ++ flat_map (members_at n at) (lacks_groups n v e)

-- ---- where a need leads

-- to the entry at this place, where it is unmet
abbrev pub leads_if : ViewedRun → NeedState → Option (ℕ × ℕ) → Option ℕ
leads_if r needs.Unmet (Some place) = Some (number_of r.views place)
leads_if r needs.Unmet None = None
leads_if r state place = None

-- a name leads to its entry in the last plan up to this phase, where it is unmet at the end of that
abbrev pub leads : NeedsRun → ℕ → PhaseView → List ℕ → Option ℕ
leads n at v name = leads_if n.run (need_of n.run at v name) (placed_below n.run.views (at + 1) name)

-- what an entry leads to, in the order of its needs
abbrev pub next_by : NeedsRun → ℕ → PhaseView → Option Entry → List ℕ
next_by n at v None = []
next_by n at v (Some e) = filter_map (leads n at v) (wanted n at v e)

abbrev pub next_at : NeedsRun → ℕ × ℕ → List ℕ
next_at n place = option_map_or (λ (v : PhaseView). next_by n place.0 v (slice_get v.plan place.1)) (slice_get n.run.views place.0) []

-- the same by the entry's number
abbrev pub next_of : NeedsRun → ℕ → List ℕ
next_of n number = option_map_or (next_at n) (places_from 0 n.run.views number) []

-- ---- all that it leads to, over any number of steps

-- breadth first: that many entries more are looked at, from the one at a place of the found on
unfoldable pub grown : (ℕ → List ℕ) → ℕ → ℕ → List ℕ → List ℕ
grown next zero at found = found
grown next (suc n) at found = option_map_or (λ v. grown next n (at + 1) (insert_all nat_eq found (next v))) (slice_get found at) found

-- an entry, and all that it leads to, each once
unfoldable pub items_of : NeedsRun → ℕ → List ℕ
items_of n number = grown (next_of n) (entry_count n.run.views) 0 (number ∷ [])
