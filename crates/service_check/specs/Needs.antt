-- Which needs of an entry are wrong?
--
-- A name of DependOnService or a group of DependOnGroup that is given twice counts where it stands first. That an entry
-- waits for what it names, and for the first member of a group: Microsoft's documentation of service entries.
use Rattle.std.specs.Prelude.{ℕ, Bool, true, false, not, ◌&&◌, ◌==◌, nat_lt, List, [], ◌∷◌, ◌++◌, map, filter, length, position, slice_get, Option, Some, None, option_and_then, if◌then◌else◌}
use Rattle.std.specs.List.{list_any, flat_map, range_with_len}
use Rattle.std.specs.Option.{option_map_or, option_to_list}
use Rattle.nt_bytes.specs.Folding.{folds_same}
use Rattle.start_model.specs.Order.{first_names}
use Rattle.answer_lines.specs.declared.check_lines.lines.Fault.{Fault}
use Rattle.answer_lines.specs.declared.check_lines.lines.Fault.TheVariants as faults
use Rattle.service_check.specs.declared.stage.Stage.{Stage}
use Rattle.service_check.specs.declared.stage.Stage.TheVariants as stages
use Rattle.service_check.specs.declared.stage.Staged.{Staged}
use Rattle.service_check.specs.Stages.{stage_rank, is_upto}

-- the names of the entries, in their order
abbrev pub names_of : List Staged → List (List ℕ)
names_of rows = map (λ r. r.entry.name) rows

-- the entry of a name
abbrev pub named : List Staged → List ℕ → Option Staged
named rows name = option_and_then (slice_get rows) (position (folds_same name) (names_of rows))

-- the group of an entry, where it has one and is taken by this stage
abbrev pub group_upto : Stage → Staged → List (List ℕ)
group_upto stage r = if is_upto stage r.stage then option_to_list r.entry.group else []

-- the groups that have such entries, each as often as it has one
abbrev pub groups_upto : Stage → List Staged → List (List ℕ)
groups_upto stage rows = flat_map (group_upto stage) rows

-- someone has to start it
abbrev pub is_demand : Stage → Bool
is_demand stages.Boot = false
is_demand stages.System = false
is_demand stages.Automatic = false
is_demand stages.Demand = true

-- What is wrong where an entry of the first stage needs one of this Start and the other stage: that is never started for it,
-- or too late. What is started on demand may wait for what is started so.
abbrev pub stage_fault : Stage → List ℕ → ℕ → Option Stage → List Fault
stage_fault own need start None = faults.Never start need ∷ []
stage_fault own need start (Some other) =
    if is_demand other && not (is_demand own) then faults.Never start need ∷ []
    else (if nat_lt (stage_rank own) (stage_rank other) then faults.Later start need ∷ []
    else [])

-- what is wrong with a name, by the entry that has it
abbrev pub name_fault : Stage → List ℕ → Option Staged → List Fault
name_fault own need None = faults.NoService need ∷ []
name_fault own need (Some r) = stage_fault own need r.entry.start r.stage

-- what is wrong with a name that an entry of this stage needs
abbrev pub service_fault : List Staged → Stage → List ℕ → List Fault
service_fault rows own need = name_fault own need (named rows need)

-- no entry of a group is taken by this stage
abbrev pub is_without : List Staged → Stage → List ℕ → Bool
is_without rows own group = not (list_any (folds_same group) (groups_upto own rows))

-- what is wrong with a group that an entry of this stage needs
abbrev pub group_fault : List Staged → Stage → List ℕ → List Fault
group_fault rows own group = if is_without rows own group then faults.NoMember group ∷ [] else []

-- what is wrong with the needs of an entry of this stage
abbrev pub faults_at : List Staged → Staged → Stage → List Fault
faults_at rows r own =
    flat_map (service_fault rows own) (first_names r.entry.services) ++ flat_map (group_fault rows own) (first_names r.entry.groups)

-- what is wrong with the needs of an entry; without a stage it needs nothing
abbrev pub need_faults : List Staged → Staged → List Fault
need_faults rows r = option_map_or (faults_at rows r) r.stage []

-- ---- good needs

-- nothing is wrong with a name that an entry of this stage needs
abbrev pub is_good : List Staged → Stage → List ℕ → Bool
is_good rows own need = length (service_fault rows own need) == 0

-- a good name has one way: the place of the entry of that name
abbrev pub name_ways : List Staged → Stage → List ℕ → List (List ℕ)
name_ways rows own need = if is_good rows own need then map (λ p. p ∷ []) (option_to_list (position (folds_same need) (names_of rows))) else []

-- the entry is of the group, and taken by this stage
abbrev pub is_way : Stage → List ℕ → Staged → Bool
is_way own group r = is_upto own r.stage && option_map_or (folds_same group) r.entry.group false

-- the places of these entries, rising
abbrev pub ways_in : List Staged → Stage → List ℕ → List ℕ
ways_in rows own group = filter (λ p. option_map_or (is_way own group) (slice_get rows p) false) (range_with_len 0 (length rows))

-- a good group has them as its ways
abbrev pub group_ways : List Staged → Stage → List ℕ → List (List ℕ)
group_ways rows own group = if is_without rows own group then [] else ways_in rows own group ∷ []

-- the good needs of an entry of this stage, each by its ways
abbrev pub ways_at : List Staged → Staged → Stage → List (List ℕ)
ways_at rows r own =
    flat_map (name_ways rows own) (first_names r.entry.services) ++ flat_map (group_ways rows own) (first_names r.entry.groups)

-- those of an entry; without a stage it needs nothing
abbrev pub good_ways : List Staged → Staged → List (List ℕ)
good_ways rows r = option_map_or (ways_at rows r) r.stage []

-- those of each entry
abbrev pub waits_of : List Staged → List (List (List ℕ))
waits_of rows = map (good_ways rows) rows
