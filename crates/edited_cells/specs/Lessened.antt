-- What a key's going takes from a tree (this project's own).
use Rattle.std.specs.Prelude.{◌≡◌, ℕ, List, find, Some}
use Rattle.hive_model.specs.Tree.{Tree, Trees, Head, key, listed, is_named, find_key}

-- a key of this name, with all below it, is below the key at a path, which has this head and these children
pub record HasChildThere (t : Tree) (parent : List (List ℕ)) (name : List ℕ) (h : Head) (ts : Trees) (k : Tree) : Type 0 where
  pub above : find_key parent t ≡ Some (key h ts)
  pub child : find (is_named name) (listed ts) ≡ Some k
