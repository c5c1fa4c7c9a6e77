-- What does the start of a service need?
--
-- The least set that has the service and, with each member that is not started, all that it names in DependOnService
-- (Microsoft's documentation of service entries; that it goes as deep as the names lead is this project's own).
use Rattle.std.specs.Prelude.{ℕ, Bool, not, ◌==◌, List, [], map, filter, fold, Option, Some, None, slice_get, if◌then◌else◌}
use Rattle.std.specs.List.{list_any, flat_map, filter_map}
use Rattle.std.specs.Ordering.{is_lt}
use Rattle.nt_bytes.specs.Folding.{folds_same, folded_order}
use Rattle.start_model.specs.Demand.{Need, automatic_of}
use Rattle.start_model.specs.Ready.{Label, has_name}

-- an entry as demand start sees it where this service alone is automatic, and a started one asks for nothing
abbrev pub asks : List Label → List ℕ → Need → Need
asks started name n = record {
  name = n.name;
  start = if folds_same name n.name then 2 else 3;
  group = None;
  services = if has_name started n.name then [] else n.services;
  groups = [];
}

-- the places of what a start of this service needs, rising: what demand start then takes
abbrev pub needed_of : List Need → List Label → List ℕ → List ℕ
needed_of table started name = automatic_of (map (asks started name) table)

-- the entry is not started
abbrev pub is_off : List Label → Need → Bool
is_off started n = not (has_name started n.name)

-- those of them that are not started, in the order of the table
abbrev pub members_of : List Need → List Label → List ℕ → List Need
members_of table started name = filter (is_off started) (filter_map (slice_get table) (needed_of table started name))

-- ---- what is in the way

-- the table has no entry of this name
abbrev pub is_absent : List (List ℕ) → List ℕ → Bool
is_absent names name = not (list_any (folds_same name) names)

-- the least of the names by fold, as it stands first
abbrev pub lesser : Option (List ℕ) → List ℕ → Option (List ℕ)
lesser None name = Some name
lesser (Some best) name = Some (if is_lt (folded_order name best) then name else best)

abbrev pub least_name : List (List ℕ) → Option (List ℕ)
least_name names = fold lesser None names

-- the least name in DependOnService of these that is no entry
abbrev pub missing_in : List (List ℕ) → List Need → Option (List ℕ)
missing_in names members = least_name (filter (is_absent names) (flat_map (λ n. n.services) members))

-- the least name of those that are disabled, which Start 4 says
abbrev pub disabled_in : List Need → Option (List ℕ)
disabled_in members = least_name (map (λ n. n.name) (filter (λ n. n.start == 4) members))
