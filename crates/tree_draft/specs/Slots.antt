-- How are the values of a key kept while steps set and delete them? (this project's own)
use Rattle.std.specs.Prelude.{◌≡◌, ℕ, List, Option, Some, None, filter_map, get_or}
use Rattle.std.specs.BTreeMap.{BTreeMap, get_by}
use Rattle.std.specs.Ordering.{nat_cmp}
use Rattle.std.specs.Cmp.Lexicographic.{slice_cmp}
use Rattle.std.specs.Global.{Vec}
use Rattle.nt_bytes.specs.Folding.{folded}
use Rattle.hive_model.specs.Tree.{Item}

-- the values in slots, in order; a slot whose value is deleted is empty
abbrev pub held : List (Option Item) → List Item
held slots = filter_map (λ slot. slot) slots

-- the slot that the map names for a folded name
abbrev pub place_in : BTreeMap (Vec ℕ) ℕ → List ℕ → Option ℕ
place_in places name = get_by (λ q. slice_cmp nat_cmp name q.items) places

-- the slot has a value with this folded name
abbrev pub IsNamed : List ℕ → Option Item → Type 0
IsNamed name None = ⊥
IsNamed name (Some v) = folded v.name ≡ name

-- each value is in the slot that the map names for its folded name, and the map names no other
pub record IsIndexOf (slots : List (Option Item)) (places : BTreeMap (Vec ℕ) ℕ) : Type 0 where
  pub each : (k : ℕ) (v : Item) → get_or slots k None ≡ Some v → place_in places (folded v.name) ≡ Some k
  pub only : (name : List ℕ) (k : ℕ) → place_in places name ≡ Some k → IsNamed name (get_or slots k None)

-- the slot with another type and other data, where it has a value
abbrev pub given : ℕ → List ℕ → Option Item → Option Item
given kind bytes None = None
given kind bytes (Some v) = Some (record v { kind = kind; bytes = bytes })
