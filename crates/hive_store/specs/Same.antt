-- What leaves a tree as it is? (This project's own.)
use Rattle.std.specs.Prelude.{◌≡◌, ℕ, List, Some, Ok}
use Rattle.nt_bytes.specs.declared.version.HiveVersion.{HiveVersion}
use Rattle.hive_model.specs.Tree.{Item, Tree, find_item}
use Rattle.hive_model.specs.Edit.{Step, edited}

-- the steps are made, and the tree after them is the one before
abbrev pub Keep : HiveVersion → Tree → List Step → Type 0
Keep version t steps = edited version t steps ≡ Ok t

-- the key's value of this name has this type and these data
pub record HasValue (key : Tree) (name : List ℕ) (kind : ℕ) (bytes : List ℕ) : Type 0 where
  pub value : Item
  pub found : find_item name key ≡ Some value
  pub kind_is : value.kind ≡ kind
  pub bytes_are : value.bytes ≡ bytes
