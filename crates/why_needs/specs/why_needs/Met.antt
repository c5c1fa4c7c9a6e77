-- By which attempt of a start was a need met? (this project's own)
--
-- A name is met by its own attempt, and a group by that of its first started member, where the attempt went well.
use Rattle.std.specs.Prelude.{ℕ, nat_lt, Bool, true, false, List, length, slice_get, Option, None, Some, if◌then◌else◌}
use Rattle.std.specs.Option.{option_map, option_map_or, option_and_then}
use Rattle.std.specs.List.{filter_map, range_with_len}
use Rattle.start_model.specs.Entries.{Entry}
use Rattle.report_words.specs.declared.words.TryWord.{TryWord}
use Rattle.report_words.specs.declared.words.TryWord.TheVariants as tries
use Rattle.quiet_run.specs.declared.last.Attempt.{Attempt}
use Rattle.why_needs.specs.declared.why_state.views.PhaseView.{PhaseView}
use Rattle.why_needs.specs.declared.why_state.views.ViewedRun.{ViewedRun}
use Rattle.why_needs.specs.why_state.States.{place_in, placed_of}
use Rattle.why_needs.specs.declared.why_needs.met.GroupStarts.{GroupStarts}

-- the attempt went well
abbrev pub is_ok : TryWord → Bool
is_ok tries.Ok = true
is_ok tries.Ignored = false
is_ok tries.Logged = false
is_ok tries.FallBack = false
is_ok tries.Stop = false

-- ---- groups

-- the entry at a place of a plan
abbrev pub entry_at : ViewedRun → ℕ × ℕ → Option Entry
entry_at r place = option_and_then (λ (v : PhaseView). slice_get v.plan place.1) (slice_get r.views place.0)

-- the group of the entry of a name, in the last plan that has it
abbrev pub group_of : ViewedRun → List ℕ → Option (List ℕ)
group_of r name = option_and_then (λ (e : Entry). e.group) (option_and_then (entry_at r) (placed_of r name))

-- the group that an attempt started a member of
abbrev pub group_by : ViewedRun → Attempt → Option (List ℕ)
group_by r a = if is_ok a.outcome then group_of r a.name else None

-- the same by the attempt's number
abbrev pub group_at : ViewedRun → ℕ → Option (List ℕ)
group_at r k = option_and_then (group_by r) (slice_get r.run.start.attempts k)

-- the attempts that started a member of a group, and these groups
abbrev pub starts_of : ViewedRun → GroupStarts
starts_of r = record {
  at = filter_map (λ k. option_map (λ (group : List ℕ). k) (group_at r k)) (range_with_len 0 (length r.run.start.attempts));
  groups = filter_map (group_at r) (range_with_len 0 (length r.run.start.attempts));
}

-- ---- needs

-- the attempt at which a name was started
abbrev pub service_met : ViewedRun → List ℕ → Option ℕ
service_met r name =
    option_and_then (λ k. option_and_then (λ (a : Attempt). if is_ok a.outcome then Some k else None) (slice_get r.run.start.attempts k))
    (place_in r.tried name)

-- the attempt at which the first member of a group was started
abbrev pub group_met : GroupStarts → List ℕ → Option ℕ
group_met g group = option_and_then (slice_get g.at) (place_in g.groups group)

-- it is among the first attempts
abbrev pub is_met : ℕ → Option ℕ → Bool
is_met n met = option_map_or (λ k. nat_lt k n) met false
