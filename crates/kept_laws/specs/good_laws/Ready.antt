-- What does a save ask of the live tree and of the clone, beyond their size?
use Rattle.std.specs.Prelude.{◌≡◌, ◌≤◌, true, [], ◌∷◌, codes}
use Rattle.std.specs.Option.{is_some}
use Rattle.hive_model.specs.Tree.{Tree, find_key}
use Rattle.hive_model.specs.Valid.{levels}

-- the tree has the key `Select`, and the clone has room for one more level above it
pub record CanBeSaved (live clone : Tree) : Type 0 where
  pub select : is_some (find_key (codes "Select" ∷ []) live) ≡ true
  pub levels : levels clone ≤ 511
