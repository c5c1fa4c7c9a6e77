-- What is in the new cells, where a child is put below the root? (This project's own; the form of each cell: the packed form, in
-- `hive_model/specs/Packed.antt`.)
use Rattle.std.specs.Prelude.{◌≡◌, ◌≤◌, ◌<◌, ℕ, ◌+◌, List, [], ◌∷◌, map, find, Some, None}
use Rattle.std.specs.Option.{option_map_or}
use Rattle.hive_model.specs.Bins.{Cell}
use Rattle.hive_model.specs.Tree.{Tree, head, children, is_named}
use Rattle.hive_model.specs.Size.{size}
use Rattle.hive_model.specs.Packed.{allocated_cell, cells_of}
use Rattle.hive_model.specs.Edit.{Step, set_value, delete_value, make_key, delete_key, copy_child, add_child, renamed}
use Rattle.hive_model.specs.Footprint.{child_places}
use Rattle.hive_cells.specs.Held.{held_at, held_among}
use Rattle.hive_pack.specs.Below.{beside}
use Rattle.edited_cells.specs.Owned.{In}
use Rattle.hive_edit.specs.Grafted.{SharesAt}
use Rattle.hive_edit.specs.Hive.{HiveCells, cells_in}

-- the child that a step puts below the root with all below it, and the descriptor that it shares: that of the root, or of the child
-- that is copied
abbrev pub run_trees : Tree → Step → List (List ℕ × Tree)
run_trees t (set_value path name kind bytes) = []
run_trees t (delete_value path name) = []
run_trees t (make_key parent name) = []
run_trees t (delete_key path) = []
run_trees t (copy_child from to) = option_map_or (λ k. ((head k).security, renamed to k) ∷ []) (find (is_named from) (children t)) []
run_trees t (add_child name k) = ((head t).security, renamed name k) ∷ []

-- the cells of a child of the root and of all below it, from an offset on: those of the packed form, but that the child names the root,
-- and shares a descriptor whose cell of security is elsewhere; the new cells of security are a ring of their own, and each counts the
-- keys that use it
abbrev pub new_cells : HiveCells → ℕ → List ℕ → Tree → ℕ → List Cell
new_cells h security shared k at = map allocated_cell (cells_of h.version (beside h.version h.root shared security at k) at k)

-- The root names a child, whose cells and those of all below it are one run, where nothing was allocated, and each is held as it was
-- written. The descriptor that is shared is in the cell of security at an offset, which some key used, or that names nothing.
pub record HasNewRun (old : HiveCells) (shared : List ℕ) (k : Tree) (new : HiveCells) : Type 0 where
  pub at : ℕ
  pub child : In (child_places (cells_in new) old.root) at
  pub security : ℕ
  pub shares : SharesAt (cells_in old) old.root security shared
  pub fresh : (o : ℕ) → at ≤ o → o < at + size old.version shared k → held_at old.bins o ≡ None
  pub held : (o : ℕ) (p : List ℕ) → held_among o at (new_cells old security shared k at) ≡ Some p → held_at new.bins o ≡ Some p
