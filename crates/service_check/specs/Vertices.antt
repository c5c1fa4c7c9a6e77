-- Which vertices stand for the entries of a set and for their good needs?
--
-- First the entries; then for each the need that it alone meets; then for each stage a need for each group that has entries
-- taken by it. A group has the place at which it stands first among these.
use Rattle.std.specs.Prelude.{ℕ, ◌+◌, Bool, false, nat_eq, List, [], ◌++◌, map, filter, length, position, slice_get, Option, None, option_and_then, if◌then◌else◌}
use Rattle.std.specs.List.{flat_map, range_with_len}
use Rattle.std.specs.Option.{option_map_or, option_to_list}
use Rattle.nt_bytes.specs.Folding.{folds_same}
use Rattle.start_model.specs.Order.{first_names}
use Rattle.service_check.specs.declared.waits.Bases.{Bases}
use Rattle.service_check.specs.declared.stage.Stage.{Stage}
use Rattle.service_check.specs.declared.stage.Stage.TheVariants as stages
use Rattle.service_check.specs.declared.stage.Staged.{Staged}
use Rattle.service_check.specs.Stages.{is_upto}
use Rattle.service_check.specs.Needs.{names_of, is_good, groups_upto}

-- where the needs of a stage's groups begin
abbrev pub base_of : Bases → Stage → ℕ
base_of b stages.Boot = b.boot
base_of b stages.System = b.system
base_of b stages.Automatic = b.taken
base_of b stages.Demand = b.taken

-- the vertices of a good name and of a good group
abbrev pub name_ids : List Staged → Stage → List ℕ → List ℕ
name_ids rows own need = if is_good rows own need then map (λ p. length rows + p) (option_to_list (position (folds_same need) (names_of rows))) else []

abbrev pub ids_from : ℕ → List (List ℕ) → List ℕ → List ℕ
ids_from base groups group = map (λ k. base + k) (option_to_list (position (folds_same group) groups))

abbrev pub group_ids : List Staged → Bases → Stage → List ℕ → List ℕ
group_ids rows b own group = ids_from (base_of b own) (groups_upto own rows) group

abbrev pub ids_at : List Staged → Bases → Staged → Stage → List ℕ
ids_at rows b r own = flat_map (name_ids rows own) (first_names r.entry.services) ++ flat_map (group_ids rows b own) (first_names r.entry.groups)

-- the vertices of an entry's good needs
abbrev pub entry_ids : List Staged → Bases → Staged → List ℕ
entry_ids rows b r = option_map_or (ids_at rows b r) r.stage []

-- the place of an entry's group among those of a stage that takes it
abbrev pub group_place : Stage → List (List ℕ) → Staged → Option ℕ
group_place stage groups r = if is_upto stage r.stage then option_and_then (λ g. position (folds_same g) groups) r.entry.group else None

-- the entry at a place has its group there
abbrev pub is_there : List Staged → Stage → List (List ℕ) → ℕ → ℕ → Bool
is_there rows stage groups k p = option_map_or (λ r. option_map_or (nat_eq k) (group_place stage groups r) false) (slice_get rows p) false

-- the first entries that have their group there
abbrev pub members_upto : List Staged → Stage → List (List ℕ) → ℕ → ℕ → List ℕ
members_upto rows stage groups n k = filter (is_there rows stage groups k) (range_with_len 0 n)
