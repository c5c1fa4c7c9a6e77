-- What does the example do to a hive? It makes 2 the default set. (this project's own)
use Rattle.std.specs.Prelude.{◌≡◌, ℕ, Bool, false, List, [], ◌∷◌, codes, Ok}
use Rattle.hive_model.specs.Base.{version_of}
use Rattle.hive_model.specs.Edit.{Step, set_value, edited}
use Rattle.hive_model.specs.Image.{Image}
use Rattle.hive_model.specs.Load.{Loads, state_of}
use Rattle.hive_model.specs.State.{HiveState}
use Rattle.hive_model.specs.Tree.{Tree}
use Rattle.hive_store.specs.Session.{Session}

-- 2 is put under the name of the default set
abbrev pub change : List Step
change = set_value (codes "Select" ∷ []) (codes "Default") 4 (2 ∷ 0 ∷ 0 ∷ 0 ∷ []) ∷ []

-- the image loads as the edited tree of a session, under this number
pub record IsEdited (session : Session) (new : Image) (number : ℕ) : Type 0 where
  pub tree : Tree
  pub made : edited (version_of session.base.minor) session.tree change ≡ Ok tree
  pub loads : Loads new (state_of tree number (version_of session.base.minor)) false

-- the new image loads as the edited tree of the old one, under this number
pub record IsChanged (old new : Image) (number : ℕ) : Type 0 where
  pub before : HiveState
  pub dirty : Bool
  pub tree : Tree
  pub read : Loads old before dirty
  pub made : edited before.version before.tree change ≡ Ok tree
  pub loads : Loads new (state_of tree number before.version) false
