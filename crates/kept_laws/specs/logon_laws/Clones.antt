-- Which set is a clone? (this project's own)
use Rattle.std.specs.Prelude.{◌≡◌, ℕ, List, Some}
use Rattle.std.specs.List.{Contains}
use Rattle.hive_model.specs.Tree.{Tree}
use Rattle.start_model.specs.Possible.{Woken}
use Rattle.start_model.specs.Sets.{set_of}

-- the tree of one of the wakes has the set, under some number
pub record IsSetWokenWith (wakes : List Woken) (set : Tree) : Type 0 where
  pub woken : Woken
  pub came : Contains wakes woken
  pub number : ℕ
  pub is : set_of woken.state.tree number ≡ Some set
