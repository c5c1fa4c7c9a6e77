-- Which of the started services lean on one of them?
--
-- Those of the least set that has it and, with its members, each started service that names one in DependOnService, or
-- that names a group in DependOnGroup of which all started services are members (this project's own). A service stands for
-- its place among the started ones. Names that fold to one are one name, so services of one name are members together.
use Rattle.std.specs.Prelude.{◌≡◌, ℕ, Bool, true, false, not, ◌&&◌, ◌||◌, List, map, length, slice_get, position, Option}
use Rattle.std.specs.Option.{option_map_or, option_map, option_and_then}
use Rattle.std.specs.List.{list_any, list_all, range_with_len, items_where_true}
use Rattle.nt_bytes.specs.Folding.{folds_same}
use Rattle.start_model.specs.Demand.{Need, member, all_sets}

-- the service at a place has this name
abbrev pub is_named : List Need → List ℕ → ℕ → Bool
is_named running name p = option_map_or (λ n. folds_same name n.name) (slice_get running p) false

-- the service at a place is of this group
abbrev pub is_of_group : List Need → List ℕ → ℕ → Bool
is_of_group running group p = option_map_or (λ n. option_map_or (folds_same group) n.group false) (slice_get running p) false

-- a member of the set has this name
abbrev pub has : List Need → (ℕ → Bool) → List ℕ → Bool
has running set name = list_any (λ p. set p && is_named running name p) (range_with_len 0 (length running))

-- the service at a place has the name of a member
abbrev pub has_at : List Need → (ℕ → Bool) → ℕ → Bool
has_at running set p = option_map_or (λ n. has running set n.name) (slice_get running p) false

-- services of this group are started, and all of them are in the set
abbrev pub has_all : List Need → (ℕ → Bool) → List ℕ → Bool
has_all running set group =
    list_any (is_of_group running group) (range_with_len 0 (length running))
    && list_all (λ p. not (is_of_group running group p) || has_at running set p) (range_with_len 0 (length running))

-- a service has the name that is asked for, or that of a member, or names a member, or such a group
abbrev pub leans : List Need → List ℕ → (ℕ → Bool) → Need → Bool
leans running name set n =
    (folds_same name n.name || has running set n.name) || (list_any (has running set) n.services || list_any (has_all running set) n.groups)

-- the service at a place is one of these
abbrev pub is_due : List Need → List ℕ → (ℕ → Bool) → ℕ → Bool
is_due running name set q = option_map_or (leans running name set) (slice_get running q) false

-- a set of places has each service that leans on its members
abbrev pub IsClosed : List Need → List ℕ → (ℕ → Bool) → Type 0
IsClosed running name set = (q : ℕ) → is_due running name set q ≡ true → set q ≡ true

-- the same as a test
abbrev pub is_closed : List Need → List ℕ → (ℕ → Bool) → Bool
is_closed running name set = list_all (λ q. not (is_due running name set q) || set q) (range_with_len 0 (length running))

-- a place is in the least closed set: it is in each closed set
unfoldable pub is_leaning : List Need → List ℕ → ℕ → Bool
is_leaning running name q = list_all (λ s. not (is_closed running name (member s)) || member s q) (all_sets (length running))

-- whether it is, for each place
abbrev pub leaning_of : List Need → List ℕ → List Bool
leaning_of running name = map (is_leaning running name) (range_with_len 0 (length running))

-- those that lean on the service of this name, in the order of their starts
abbrev pub leaning_in : List Need → List ℕ → List Need
leaning_in running name = items_where_true (leaning_of running name) running

-- the others
abbrev pub others_in : List Need → List ℕ → List Need
others_in running name = items_where_true (map not (leaning_of running name)) running

-- the first one of another name
abbrev pub first_other : List ℕ → List Need → Option Need
first_other name needs = option_and_then (slice_get needs) (position (λ n. not (folds_same name n.name)) needs)

-- the name of the first that leans on it, but itself
abbrev pub in_use_by : List Need → List ℕ → Option (List ℕ)
in_use_by running name = option_map (λ n. n.name) (first_other name (leaning_in running name))
