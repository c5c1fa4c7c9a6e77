-- Which paths mean what they name, and what is asked of cells? (this project's own)
use Rattle.std.specs.Prelude.{◌≡◌, ℕ, false, List, [], ◌∷◌, Option, Some, None}
use Rattle.hive_model.specs.Bins.{Cells}
use Rattle.hive_model.specs.Tree.{Tree}
use Rattle.hive_model.specs.Valid.{HoldsKeys}
use Rattle.hive_model.specs.Stands.{Stands}
use Rattle.key_text.specs.Found.{means_current}

-- a tree is at the root, and each of its keys is one that a hive can hold
pub record HoldsTree (cells : Cells) (root : ℕ) : Type 0 where
  pub tree : Tree
  pub stands : Stands cells root tree
  pub keys : HoldsKeys tree

-- the first name does not stand for the set of the next start
abbrev pub IsTruePath : Tree → List (List ℕ) → Type 0
IsTruePath t [] = Unit {0}
IsTruePath t (name ∷ rest) = means_current t name ≡ false

-- a path from a set, if there is one
abbrev pub path_through : Option (List ℕ) → List (List ℕ) → Option (List (List ℕ))
path_through None rest = None
path_through (Some name) rest = Some (name ∷ rest)
