-- Which keys' lists does a step rewrite, and how are they written? (This project's own.)
use Rattle.std.specs.Prelude.{◌≡◌, ◌<◌, ℕ, if◌then◌else◌, List, [], ◌∷◌, None, Ok}
use Rattle.std.specs.Option.{option_map_or}
use Rattle.hive_model.specs.Bins.{Cells}
use Rattle.hive_model.specs.Tree.{Tree}
use Rattle.hive_model.specs.Edit.{Step, set_value, delete_value, make_key, delete_key, copy_child, add_child}
use Rattle.hive_model.specs.KeyNode.{KeyNode, key_node_at}
use Rattle.hive_model.specs.Walk.{reading}
use Rattle.hive_model.specs.Footprint.{has_key, of_key, child_places, list_cells_at}
use Rattle.hive_model.specs.InPlace.{IsPackedList}
use Rattle.hive_cells.specs.Held.{held_at}
use Rattle.edited_cells.specs.Owned.{In}
use Rattle.edited_cells.specs.Relists.{SaysTheRest}
use Rattle.key_index.specs.Lists.{hints_in}
use Rattle.hive_edit.specs.Hive.{HiveCells, cells_in}
use Rattle.hive_edit.specs.Deleting.{pair_place}

-- the key that gets or loses a child by a step: the one above a key that is made or deleted, or the root
abbrev pub relisted_keys : Cells → ℕ → Tree → Step → List ℕ
relisted_keys cells root t (set_value path name kind bytes) = []
relisted_keys cells root t (delete_value path name) = []
relisted_keys cells root t (make_key parent name) = if has_key parent name t then [] else of_key cells root parent (λ at. at ∷ [])
relisted_keys cells root t (delete_key path) = option_map_or (λ p. p.above ∷ []) (pair_place cells path root) []
relisted_keys cells root t (copy_child from to) = root ∷ []
relisted_keys cells root t (add_child name k) = root ∷ []

-- The lists of the key at an offset are rewritten: they are as a list of its children in order is written, with the hints of their
-- names, and the cells of the old ones are free. Of all but its children, and the greatest lengths, its node says the same as before: of its
-- volatile children, its values, its security and its class, too.
pub record HasNewLists (old new : HiveCells) (at : ℕ) : Type 0 where
  pub was : KeyNode
  pub node : KeyNode
  pub read_old : reading key_node_at (cells_in old) at ≡ Ok was
  pub read : reading key_node_at (cells_in new) at ≡ Ok node
  pub rest : SaysTheRest was node
  pub lists : 0 < node.child_count
      → IsPackedList (cells_in new) node.child_list (child_places (cells_in new) at) (hints_in (cells_in new) (child_places (cells_in new) at))
  pub freed : (o : ℕ) → In (list_cells_at (cells_in old) at) o → held_at new.bins o ≡ None
