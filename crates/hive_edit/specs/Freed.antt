-- What is free once a value was set or deleted in place? (This project's own.)
use Rattle.std.specs.Prelude.{◌≡◌, ℕ, List, [], ◌∷◌, Contains, Some, None}
use Rattle.hive_model.specs.Walk.{value_checks}
use Rattle.hive_model.specs.Footprint.{used_in, key_place}
use Rattle.hive_cells.specs.Held.{held_at}
use Rattle.edited_cells.specs.Owned.{In, value_places, value_list_at}
use Rattle.hive_edit.specs.Given.{place_in}
use Rattle.hive_edit.specs.Hive.{HiveCells, cells_in}
use Rattle.hive_look.specs.Places.{value_place, data_places}

-- the cells of the value of a name in the key at a path are free, and so is the value list of the key, where it named no other
pub record FreesValue (old : HiveCells) (path : List (List ℕ)) (name : List ℕ) (new : HiveCells) : Type 0 where
  pub key : ℕ
  pub value : ℕ
  pub at : key_place (cells_in old) path old.root ≡ Some key
  pub place : value_place (cells_in old) name key ≡ Some value
  pub freed : (o : ℕ) → In (used_in (value_checks (cells_in old) [] value)) o → held_at new.bins o ≡ None
  pub list : value_places (cells_in old) key ≡ value ∷ [] → (o : ℕ) → In (value_list_at (cells_in old) key) o → held_at new.bins o ≡ None

-- the cells that the data of the value of a name in the key at a path were in are free, where there was such a value
abbrev pub FreesData : HiveCells → List (List ℕ) → List ℕ → HiveCells → Type 0
FreesData old path name new =
    (at : ℕ) → place_in (cells_in old) path name old.root ≡ Some at → (o : ℕ) → Contains (data_places (cells_in old) at) o → held_at new.bins o ≡ None
