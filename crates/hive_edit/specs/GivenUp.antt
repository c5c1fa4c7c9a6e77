-- Which cells does a step give up, besides lists of children? (This project's own.)
use Rattle.std.specs.Prelude.{ℕ, ◌==◌, Bool, if◌then◌else◌, List, [], ◌∷◌, ◌++◌, length}
use Rattle.std.specs.Option.{option_map_or}
use Rattle.hive_model.specs.Bins.{Cells}
use Rattle.hive_model.specs.Edit.{Step, set_value, delete_value, make_key, delete_key, copy_child, add_child}
use Rattle.hive_model.specs.Walk.{value_checks}
use Rattle.hive_model.specs.Footprint.{used_in, of_key}
use Rattle.edited_cells.specs.Owned.{value_list_at, value_places}
use Rattle.edited_cells.specs.Uses.{tree_uses}
use Rattle.hive_look.specs.Places.{value_place, data_places}
use Rattle.hive_edit.specs.Deleting.{levels_left, pair_place}

-- where the key at an offset gets a value: the cells of the data that it had under this name, or else its value list, which is written
-- again with the new value
abbrev pub replaced_cells : Cells → List ℕ → ℕ → List ℕ
replaced_cells cells name at = option_map_or (data_places cells) (value_place cells name at) (value_list_at cells at)

-- where it loses one: the cells of the value, and its value list where that names no other
abbrev pub dropped_cells : Cells → List ℕ → ℕ → List ℕ
dropped_cells cells name at =
    option_map_or (λ value. used_in (value_checks cells [] value)) (value_place cells name at) []
    ++ (if length (value_places cells at) == 1 then value_list_at cells at else [])

-- the cells among these uses that are not used as security
abbrev pub plain_cells : List (ℕ × Bool) → List ℕ
plain_cells [] = []
plain_cells (u ∷ us) = if u.1 then plain_cells us else u.0 ∷ plain_cells us

-- those of a value that is set or deleted, and of a key that is deleted with all below it
abbrev pub given_up : Cells → ℕ → Step → List ℕ
given_up cells root (set_value path name kind bytes) = of_key cells root path (replaced_cells cells name)
given_up cells root (delete_value path name) = of_key cells root path (dropped_cells cells name)
given_up cells root (make_key parent name) = []
given_up cells root (delete_key path) = option_map_or (λ p. plain_cells (tree_uses (levels_left path) cells p.at)) (pair_place cells path root) []
given_up cells root (copy_child from to) = []
given_up cells root (add_child name k) = []
