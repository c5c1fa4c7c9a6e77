-- Where does a line say that something is? (this project's own)
use Rattle.std.specs.Prelude.{◌≡◌, ℕ, false, List, Some, Contains}
use Rattle.std.specs.List.{All}
use Rattle.nt_bytes.specs.Text.{is_backslash}
use Rattle.hive_model.specs.Tree.{Item, Tree, head, find_key}
use Rattle.key_text.specs.Found.{spelled as spelled_in}
use Rattle.find_rule.specs.Hits.{Hit, KeyName, ValueName, Data}

-- the path leads to the key, is spelled as the keys on it are, and has no backslash in a name
pub record IsKeyAt (root : Tree) (path : List (List ℕ)) (c : Tree) : Type 0 where
  pub found : find_key path root ≡ Some c
  pub spelled : spelled_in path root ≡ path
  pub whole : All (λ name. All (λ u. is_backslash u ≡ false) name) path

-- the key at its path has that name, or such a value with that name and those data
abbrev pub StandsIn : Tree → Hit → Type 0
StandsIn root (KeyName path name) = (c : Tree) × IsKeyAt root path c × ((head c).name ≡ name)
StandsIn root (ValueName path name) = (c : Tree) × IsKeyAt root path c × ((v : Item) × Contains (head c).values v × (v.name ≡ name))
StandsIn root (Data path v) = (c : Tree) × IsKeyAt root path c × Contains (head c).values v
