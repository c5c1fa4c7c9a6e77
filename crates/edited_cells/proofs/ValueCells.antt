-- Values set and deleted, from the cells that were written and freed.
use Rattle.std.proofs.Common.{◌≡◌, ℕ, true, false, List, [], ◌∷◌, ◌++◌, Some, Ok}
use Rattle.nt_bytes.specs.Folding.{folds_same}
use Rattle.hive_model.specs.Bins.{Cells}
use Rattle.hive_model.specs.Tree.{Tree}
use Rattle.hive_model.specs.Edit.{set_value, delete_value, has_item, after_step}
use Rattle.hive_model.specs.KeyNode.{KeyNode, key_node_at}
use Rattle.hive_model.specs.Walk.{reading}
use Rattle.hive_model.specs.Footprint.{key_place}
use Rattle.hive_model.specs.Stands.{IsWellFormed}
use Rattle.edited_cells.specs.Owned.{value_name, value_places}
use Rattle.edited_cells.specs.Changes.{GetsData, MovesValue, AddsValue, TakesValue}
use Rattle.edited_cells.specs.Done.{item, IsDone}
use Rattle.edited_cells.proofs.Out.{placed_at}
use Rattle.edited_cells.proofs.FromCells.{gets_data, moves_value, takes_value, adds_value}
use Rattle.edited_cells.proofs.ValueSteps.{a_value_set, a_new_value_set, a_value_deleted}

module _ (b c : Cells) (root : ℕ) (t u : Tree) (path : List (List ℕ)) (name : List ℕ) (x : ℕ) (n : KeyNode)
    (well : IsWellFormed b root t)
    (at : key_place b path root ≡ Some x) (read : reading key_node_at b x ≡ Ok n) where
  -- a value gets data where it stands
  pub data_set : (kind : ℕ) (bytes : List ℕ) (front back : List ℕ) (v : ℕ)
      → after_step (set_value path name kind bytes) t ≡ Ok u → value_places b x ≡ front ++ v ∷ back
      → folds_same name (value_name b v) ≡ true → GetsData b c v kind bytes
      → IsDone b c root t u (set_value path name kind bytes)
  data_set kind bytes front back v ok places named g =
      let w = placed_at b path root x at in
      a_value_set b c root t u path name kind bytes x v front (v ∷ []) back well ok at named
      (gets_data b c root t w.stored x n well w.reached read front back v places kind bytes g)

  -- a value gets data in other cells
  pub value_moved : (kind : ℕ) (bytes : List ℕ) (front back : List ℕ) (v y : ℕ)
      → after_step (set_value path name kind bytes) t ≡ Ok u → value_places b x ≡ front ++ v ∷ back
      → folds_same name (value_name b v) ≡ true → MovesValue b c x n front back v y kind bytes
      → IsDone b c root t u (set_value path name kind bytes)
  value_moved kind bytes front back v y ok places named g =
      let w = placed_at b path root x at in
      a_value_set b c root t u path name kind bytes x v front (y ∷ []) back well ok at named
      (moves_value b c root t w.stored x n well w.reached read front back v places y kind bytes g)

  -- a value of a new name comes
  pub value_added : (kind : ℕ) (bytes : List ℕ) (offsets : List ℕ) (y : ℕ) (q : List ℕ) (list : ℕ)
      → after_step (set_value path name kind bytes) t ≡ Ok u → value_places b x ≡ offsets
      → has_item path name t ≡ false → AddsValue b c x n offsets y q list (item name kind bytes)
      → IsDone b c root t u (set_value path name kind bytes)
  value_added kind bytes offsets y q list ok places none g =
      let w = placed_at b path root x at in
      a_new_value_set b c root t u path name kind bytes x offsets (y ∷ []) well ok at none
      (adds_value b c root t w.stored x n well w.reached read offsets y q list (item name kind bytes) places g)

  -- a value goes
  pub value_taken : (front back : List ℕ) (v : ℕ) (q : List ℕ) (list : ℕ)
      → after_step (delete_value path name) t ≡ Ok u → value_places b x ≡ front ++ v ∷ back
      → folds_same name (value_name b v) ≡ true → TakesValue b c x n front back v q list
      → IsDone b c root t u (delete_value path name)
  value_taken front back v q list ok places named g =
      let w = placed_at b path root x at in
      a_value_deleted b c root t u path name x v front back well ok at named
      (takes_value b c root t w.stored x n well w.reached read front back v places q list g)
