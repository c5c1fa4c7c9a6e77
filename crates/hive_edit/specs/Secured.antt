-- Which keys come to use a cell of security by a step, and which cease to? (This project's own.)
use Rattle.std.specs.Prelude.{ℕ, ◌==◌, Bool, true, false, if◌then◌else◌, List, [], ◌∷◌, find, replicate}
use Rattle.std.specs.Option.{option_map_or}
use Rattle.hive_model.specs.Bins.{Cells}
use Rattle.hive_model.specs.Tree.{Tree, head, children, is_named, find_key}
use Rattle.hive_model.specs.Edit.{Step, set_value, delete_value, make_key, delete_key, copy_child, add_child, new_key}
use Rattle.hive_model.specs.Footprint.{has_key, of_key, security_cell_at}
use Rattle.edited_cells.specs.Uses.{tree_uses}
use Rattle.hive_edit.specs.Dropped.{times}
use Rattle.hive_edit.specs.Grafted.{sharing}
use Rattle.hive_edit.specs.Deleting.{levels_left, pair_place}

-- that many keys come to use the cell at an offset, where it is among these
abbrev pub comers : ℕ → List ℕ → ℕ → List Bool
comers n [] o = []
comers n (at ∷ cells) o = if at == o then replicate n true else comers n cells o

-- The keys that come to use the cell of security at an offset by a step (true), and those that cease to: a key that is made comes to use
-- that of the key above it, if this has a descriptor, a child that is added or copied, and the keys below it that share its descriptor,
-- that of the root or of the child that is copied, and a key that is deleted ceases to, with those below it.
abbrev pub changes_of : Cells → ℕ → Tree → Step → ℕ → List Bool
changes_of cells root t (set_value path name kind bytes) o = []
changes_of cells root t (delete_value path name) o = []
changes_of cells root t (make_key parent name) o =
    if has_key parent name t then []
    else comers (option_map_or (λ k. sharing (head k).security (new_key name k)) (find_key parent t) 0) (of_key cells root parent (security_cell_at cells)) o
changes_of cells root t (delete_key path) o =
    replicate (option_map_or (λ p. times o (tree_uses (levels_left path) cells p.at)) (pair_place cells path root) 0) false
changes_of cells root t (copy_child from to) o =
    comers (option_map_or (λ k. sharing (head k).security k) (find (is_named from) (children t)) 0) (of_key cells root (from ∷ []) (security_cell_at cells)) o
changes_of cells root t (add_child name k) o = comers (sharing (head t).security k) (security_cell_at cells root) o
