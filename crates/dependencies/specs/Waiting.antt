-- What is kept of a phase, so that its next entry is found without going through the others? (this project's own)
use Rattle.std.specs.Prelude.{ℕ, ◌+◌, ◌-◌, ◌^◌, min, Bool, false, not, List, ◌++◌, length, count_by, slice_get, slice_set, Option, if◌then◌else◌}
use Rattle.std.specs.Option.{option_map, option_to_list, option_and_then}
use Rattle.std.specs.List.{flat_map, range_with_len, items_where_true}
use Rattle.nt_bytes.specs.Folding.{folded}
use Rattle.start_model.specs.Demand.{Need}
use Rattle.start_model.specs.Ready.{Label, has_name, has_group, next_of}

-- the entries of a phase, which of them still wait, and who was started
pub record WaitingState : Type 0 where
  -- all entries of the phase, in its order
  pub needs : List Need
  -- for each of them, whether it still waits
  pub waits : List Bool
  pub started : List Label

-- the entries that still wait, in their order
abbrev pub waiting_in : WaitingState → List Need
waiting_in w = items_where_true w.waits w.needs

-- their places in the phase, rising
abbrev pub places_in : WaitingState → List ℕ
places_in w = items_where_true w.waits (range_with_len 0 (length w.needs))

-- the place in the phase of the next entry, the one that `next_of` finds among those that still wait
abbrev pub next_place_in : WaitingState → Option ℕ
next_place_in w = option_and_then (slice_get (places_in w)) (next_of w.started (waiting_in w))

-- what is kept of an entry that was started: its folded name, and its folded group where it has one
abbrev pub label_of : Need → Label
label_of n = (folded n.name, option_map folded n.group)

-- the same of the entry at a place
abbrev pub labels_at : List Need → ℕ → List Label
labels_at needs place = option_to_list (option_map label_of (slice_get needs place))

-- the entry at a place waits no more, and was started where its attempt went well
abbrev pub after_trying : WaitingState → ℕ → Bool → WaitingState
after_trying w place ok = record w {
  waits = slice_set w.waits place false;
  started = if ok then w.started ++ labels_at w.needs place else w.started;
}

-- ---- how many names are looked at

-- the names of DependOnService and of DependOnGroup, repeats among them
abbrev pub services_in : List Need → List (List ℕ)
services_in needs = flat_map (λ n. n.services) needs

abbrev pub groups_in : List Need → List (List ℕ)
groups_in needs = flat_map (λ n. n.groups) needs

-- how many they are
abbrev pub name_count : List Need → ℕ
name_count needs = length (services_in needs) + length (groups_in needs)

-- how many of them are not met
abbrev pub unmet_count : List Need → List Label → ℕ
unmet_count needs started =
    count_by (λ s. not (has_name started s)) (services_in needs) + count_by (λ g. not (has_group started g)) (groups_in needs)

-- a count with that many more, as far as a u64 goes
abbrev pub raised : ℕ → ℕ → ℕ
raised count more = count + min more (2 ^ 64 - 1 - count)
