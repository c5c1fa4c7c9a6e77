-- What do steps in order, made one by one, make of a hive's cells, whatever the bulk of the tree? (This project's own.)
use Rattle.std.specs.Prelude.{◌≡◌, ◌≤◌, ◌<◌, ◌*◌, ◌/◌, ◌==◌, ℕ, nat_lt, Bool, if◌then◌else◌, true, false, List, [], ◌∷◌, length, sum_by, Result, Ok, Err}
use Rattle.std.specs.Option.{option_map_or}
use Rattle.hive_model.specs.Limits.{most_bins}
use Rattle.hive_model.specs.Bins.{bins_size}
use Rattle.hive_model.specs.Size.{bulk_of}
use Rattle.hive_model.specs.Tree.{Tree, head, children, find_key}
use Rattle.hive_model.specs.Edit.{Step, set_value, delete_value, make_key, delete_key, copy_child, add_child, edited, most_bulk}
use Rattle.hive_model.specs.Footprint.{needed_sizes, parent_of, room_of, strain_of}
use Rattle.reg_tree.specs.declared.stop.EditStop.{EditStop}
use Rattle.reg_tree.specs.Makes.{IsRefused}
use Rattle.hive_edit.specs.Hive.{HiveCells}
use Rattle.hive_edit.specs.Tells.{IsToldStep}

-- the steps were made, each on the cells that the one before left, and each key that got an item records its lengths
abbrev pub AreStepped : HiveCells → List Step → HiveCells → Type 0
AreStepped old [] new = old ≡ new
AreStepped old (step ∷ steps) new = (mid : HiveCells) × IsToldStep old step mid × AreStepped mid steps new

-- where the steps are made at all, their strain is over the greatest size of bins data
abbrev pub AreStrained : HiveCells → List Step → Type 0
AreStrained old steps =
    (u : Tree) → edited old.version old.tree steps ≡ Ok u → most_bins < strain_of old.version (bins_size old.bins) old.tree steps

-- all steps were made within the greatest bulk; or none, since there is no room for them, or since the edit is refused: the hive is as it was
abbrev pub AreMadeOrNone : HiveCells → List Step → Result Bool EditStop → HiveCells → Type 0
AreMadeOrNone old steps (Ok true) new = AreStepped old steps new × (bulk_of new.version new.tree ≤ most_bulk)
AreMadeOrNone old steps (Ok false) new = AreStrained old steps × (new ≡ old)
AreMadeOrNone old steps (Err stop) new = IsRefused (edited old.version old.tree steps) stop × (new ≡ old)

-- the cells that a step may need have no less room than this
abbrev pub IsLeastRoom : HiveCells → Step → HiveCells → ℕ → Type 0
IsLeastRoom old step new room = room ≤ room_of (needed_sizes old.version old.tree step new.tree)

-- how many values the key at a path has
abbrev pub values_in : List (List ℕ) → Tree → ℕ
values_in path t = option_map_or (λ k. length (head k).values) (find_key path t) 0

-- how many children the key at a path has
abbrev pub children_in : List (List ℕ) → Tree → ℕ
children_in path t = option_map_or (λ k. length (children k)) (find_key path t) 0

-- the size of a list, and at least a page of bins data
abbrev pub page_at_least : ℕ → ℕ
page_at_least size = if nat_lt size 4096 then 4096 else size

-- the room that the list of that many values needs at the least
abbrev pub least_value_room : ℕ → ℕ
least_value_room n = if n == 0 then 0 else page_at_least (4 * n)

-- the room that the lists of that many children need at the least: a page for each full list
abbrev pub least_list_room : ℕ → ℕ
least_list_room n = if n == 0 then 0 else page_at_least (n / 500 * 4096)

-- the room that a step which gave this tree took at the least, by whether nothing had to be made: of the list that it wrote again
abbrev pub least_step_room : Step → Bool → Tree → ℕ
least_step_room (set_value path name kind bytes) still t = least_value_room (values_in path t)
least_step_room (delete_value path name) still t = least_value_room (values_in path t)
least_step_room (make_key parent name) still t = if still then 0 else least_list_room (children_in parent t)
least_step_room (delete_key path) still t = least_list_room (children_in (parent_of path) t)
least_step_room (copy_child from to) still t = 0
least_step_room (add_child name k) still t = 0

-- 1 where a step sets a value, else 0
abbrev pub sets_value : Step → ℕ
sets_value (set_value path name kind bytes) = 1
sets_value (delete_value path name) = 0
sets_value (make_key parent name) = 0
sets_value (delete_key path) = 0
sets_value (copy_child from to) = 0
sets_value (add_child name k) = 0

-- how many of the steps set a value
abbrev pub values_set : List Step → ℕ
values_set steps = sum_by sets_value steps
