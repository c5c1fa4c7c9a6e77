-- Which entry is attempted next, and which are never attempted?
--
-- One whose services and groups were started before (Microsoft's documentation of service entries,
-- DependOnService and DependOnGroup). That a group is met from its first started member on, and without
-- members never, and that the first ready entry goes next, is this project's own.
use Rattle.std.specs.Prelude.{ℕ, Bool, false, ◌&&◌, List, Option, position}
use Rattle.std.specs.Option.{option_map_or}
use Rattle.std.specs.List.{list_any, list_all}
use Rattle.nt_bytes.specs.Folding.{folds_same}
use Rattle.start_model.specs.Demand.{Need}

-- an entry that was started: its name, and its group where it has one; both are compared folded
abbrev pub Label : Type 0
Label = List ℕ × Option (List ℕ)

-- an entry of this name was started
abbrev pub has_name : List Label → List ℕ → Bool
has_name started name = list_any (λ s. folds_same name s.0) started

-- an entry of this group was started
abbrev pub has_group : List Label → List ℕ → Bool
has_group started group = list_any (λ s. option_map_or (folds_same group) s.1 false) started

-- each name was started, and each group has a started member; a group without members is never met
abbrev pub is_ready : List Label → Need → Bool
is_ready started need = list_all (has_name started) need.services && list_all (has_group started) need.groups

-- the place of the next entry: the waiting ones are in the order of the phase, and the first that is ready is next
abbrev pub next_of : List Label → List Need → Option ℕ
next_of started waiting = position (is_ready started) waiting
