-- Which key nodes name a key as their parent (regf format 1.3 and 1.5, key node)?
use Rattle.std.specs.Prelude.{◌≡◌, ℕ, zero, suc, ◌*◌, ◌==◌, if◌then◌else◌, List, [], ◌∷◌, ◌++◌, Option, Some, None, Result, Ok, Err}
use Rattle.std.specs.Option.{option_map_or}
use Rattle.std.specs.Ordering.{nat_cmp}
use Rattle.std.specs.BTreeMap.{BTreeMap, get}
use Rattle.std.specs.Global.{Vec}
use Rattle.nt_bytes.specs.declared.fault.HiveFaultKind.{HiveFaultKind}
use Rattle.hive_model.specs.KeyNode.{KeyNode, key_node_at}
use Rattle.hive_model.specs.Walk.{reading}
use Rattle.salvage_bins.specs.Ground.{Ground}

-- the parent that a node names
abbrev pub parent_in : Result KeyNode HiveFaultKind → Option ℕ
parent_in (Ok node) = Some node.parent
parent_in (Err kind) = None

-- a place, if this parent is named there
abbrev pub place_if : ℕ → Option ℕ → ℕ → List ℕ
place_if parent (Some named) at = if named == parent then at ∷ [] else []
place_if parent None at = []

-- of the first n places of eight bytes, those at which an allocated cell begins that has the form of a key node and names this parent
unfoldable pub naming : Ground → ℕ → ℕ → List ℕ
naming hive parent zero = []
naming hive parent (suc n) = naming hive parent n ++ place_if parent (parent_in (reading key_node_at hive.cells (8 * n))) (8 * n)

-- ---- the index

-- the places under a parent
abbrev pub listed : BTreeMap ℕ (Vec ℕ) → ℕ → List ℕ
listed index parent = option_map_or (λ (v : Vec ℕ). v.items) (get nat_cmp index parent) []

-- under each parent are the places that name it
pub record AreNaming (hive : Ground) (index : BTreeMap ℕ (Vec ℕ)) : Type 0 where
  pub each : (parent : ℕ) → listed index parent ≡ naming hive parent hive.slots
