-- Which services are there, and which are started, after a start of which each attempt goes well?
--
-- The phases are those of a start, each in its order (Windows Internals, 4th edition, startup).
use Rattle.std.specs.Prelude.{ℕ, ◌||◌, Bool, List, [], ◌++◌, length, map, slice_get, Option, Some, None, if◌then◌else◌}
use Rattle.std.specs.Option.{option_map}
use Rattle.std.specs.List.{filter_map, range_with_len}
use Rattle.hive_model.specs.Tree.{Tree}
use Rattle.start_model.specs.Demand.{Need}
use Rattle.start_model.specs.Entries.{Entry, Phase, Boot, System, Automatic, entries_of, is_driver, is_service, need_of}
use Rattle.start_model.specs.Order.{GroupOrder, Rank, group_place, ordered_of, orders_of, plan_of}
use Rattle.dependencies.specs.Work.{names_of}
use Rattle.service_control.specs.State.{ControlState, labels_of}
use Rattle.service_control.specs.Turns.{starts_of}

-- the entry is a driver or a service
abbrev pub is_controlled : ℕ → Bool
is_controlled kind = is_driver kind || is_service kind

-- what a driver or a service needs; an entry of another Type is none
abbrev pub controlled : Entry → Option Need
controlled e = if is_controlled e.kind then Some (need_of e) else None

-- the drivers and services of a set, in the order of the registry
abbrev pub table_of : Tree → List Need
table_of set = filter_map controlled (entries_of set)

-- the place of an entry by its group and then in the registry; no tag counts
abbrev pub group_rank : List GroupOrder → ℕ → Need → Rank
group_rank orders place n = record { group = group_place orders n.group; tag = 0; place = place }

-- the ranks of the entries
abbrev pub ranks_of : List GroupOrder → List Need → List Rank
ranks_of orders table = filter_map (λ p. option_map (group_rank orders p) (slice_get table p)) (range_with_len 0 (length table))

-- the entries in that order
abbrev pub by_group_of : List GroupOrder → List Need → List Need
by_group_of orders table = filter_map (slice_get table) (map (λ r. r.place) (ordered_of (ranks_of orders table)))

-- what a phase takes starts as its turns come, after those of the phases before, which are not taken again
abbrev pub after_phase : Tree → Phase → List Need → List Need
after_phase set phase running = running ++ starts_of (map need_of (plan_of set phase (names_of running))) (labels_of running)

-- all phases, in sequence
abbrev pub first_running : Tree → List Need
first_running set = after_phase set Automatic (after_phase set System (after_phase set Boot []))

-- what is known of the services then
abbrev pub control_of : Tree → ControlState
control_of set = record { table = table_of set; by_group = by_group_of (orders_of set) (table_of set); running = first_running set }
