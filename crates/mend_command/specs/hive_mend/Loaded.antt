-- What is a hive as it was loaded? (This project's own.)
use Rattle.std.specs.Prelude.{ℕ, List, refl}
use Rattle.std.specs.Coded.{Coded, code_by, coded×, coded_ℕ, coded_list}
use Rattle.hive_model.specs.Base.{Base, version_of}
use Rattle.hive_model.specs.Tree.{Tree}
use Rattle.hive_model.specs.Codes.{coded_tree}
use Rattle.hive_model.specs.Valid.{IsValid}
use Rattle.hive_model.specs.State.{HiveState}
use Rattle.hive_model.specs.Load.{state_of}
use Rattle.hive_store.specs.Session.{HasTree, coded_base}

-- the base block and the bins data as the disk carries them, and the tree in them
pub record Loaded : Type 0 where
  pub base : Base
  pub bins : List ℕ
  pub tree : Tree

-- a hive can hold the tree, and it is in the bins data at the root that the base block names
pub record IsLoaded (base : Base) (bins : List ℕ) (tree : Tree) : Type 0 where
  pub valid : IsValid tree
  pub has : HasTree (version_of base.minor) bins base.root tree

-- the tree under the number and in the version of its base block
abbrev pub loaded_state : Loaded → HiveState
loaded_state h = state_of h.tree h.base.first (version_of h.base.minor)

-- a loaded hive as the logic codes it
abbrev pub coded_loaded : Coded Loaded
coded_loaded =
    code_by (Base × (List ℕ × Tree)) (coded× coded_base (coded× (coded_list coded_ℕ) coded_tree))
    (λ h. (h.base, (h.bins, h.tree))) (λ p. record { base = p.0; bins = p.1.0; tree = p.1.1 }) (λ _. refl)
