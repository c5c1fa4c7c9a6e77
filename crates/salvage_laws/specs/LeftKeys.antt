-- What remains of a key with all below it, in which cells, and what is printed for the rest?
use Rattle.std.specs.Prelude.{◌≡◌, ◌⊎◌, ℕ, zero, suc, ◌+◌, Bool, true, false, List, [], ◌∷◌, ◌++◌, Option, Some, None, Ok}
use Rattle.std.specs.List.{list_any}
use Rattle.nt_bytes.specs.Folding.{folds_same}
use Rattle.nt_bytes.specs.declared.fault.HiveFaultKind.{HiveFaultKind}
use Rattle.hive_model.specs.Base.{fault_at}
use Rattle.hive_model.specs.KeyNode.{KeyNode, key_node_at}
use Rattle.hive_model.specs.Stands.{tree_flags}
use Rattle.hive_model.specs.Tree.{Head, Tree, key, trees, head}
use Rattle.hive_model.specs.Walk.{reading, node_at}
use Rattle.salvage_bins.specs.Ground.{Ground}
use Rattle.salvage_walk.specs.declared.claims.Claim.{Claim}
use Rattle.salvage_walk.specs.declared.lines.WalkLine.{WalkLine}
use Rattle.salvage_walk.specs.declared.lines.WalkLine.TheVariants as lines
use Rattle.salvage_walk.specs.Uses.{claim_at}
use Rattle.salvage_walk.specs.Parts.{node_form, node_long}
use Rattle.salvage_walk.specs.Walked.{Walked}
use Rattle.salvage_walk.specs.Keys.{key_line, least_root}
use Rattle.salvage_laws.specs.Fails.{Fails, ChildFails}
use Rattle.salvage_laws.specs.Left.{ClassLeft, SecurityLeft, ValuesLeft}
use Rattle.salvage_laws.specs.LeftLists.{EntriesLeft}

-- what is printed for a key at an offset, and of all below it: the tree that stands, its uses and its lines
abbrev pub Leaving : Type 1
Leaving = ℕ → Tree → List Claim → List WalkLine → Type 0

-- a child that stands, and those after it
pub record NextStands (Child : Leaving) (at : ℕ) (names : List (List ℕ)) (keys : List Tree) (uses : List Claim) (said : List WalkLine)
    (Rest : List (List ℕ) → List Tree → List Claim → List WalkLine → Type 0) : Type 0 where
  pub child : Tree
  pub child_uses : List Claim
  pub child_said : List WalkLine
  pub rest_keys : List Tree
  pub rest_uses : List Claim
  pub rest_said : List WalkLine
  pub keys_are : keys ≡ child ∷ rest_keys
  pub uses_are : uses ≡ child_uses ++ rest_uses
  pub said_is : said ≡ child_said ++ rest_said
  pub is_new : list_any (folds_same (head child).name) names ≡ false
  pub stands : Child at child child_uses child_said
  pub rest : Rest (names ++ (head child).name ∷ []) rest_keys rest_uses rest_said

-- a child that is left out, and those after it
pub record NextFails (left : ℕ) (hive : Ground) (used : List Claim) (path : List (List ℕ)) (i : ℕ) (at : ℕ) (names : List (List ℕ))
    (said : List WalkLine) (Rest : List WalkLine → Type 0) : Type 0 where
  pub kind : HiveFaultKind
  pub rest_said : List WalkLine
  pub said_is : said ≡ key_line path i (fault_at kind at) (reading key_node_at hive.cells at) ∷ rest_said
  pub fails : ChildFails left hive used names at kind
  pub rest : Rest rest_said

-- the children at these offsets after children of these names, the first the Ith of its key: each stands or has a line
abbrev pub KeysLeft : Leaving → ℕ → Ground → List Claim → List (List ℕ) → ℕ → List (List ℕ) → List ℕ → List Tree → List Claim
    → List WalkLine → Type 0
KeysLeft Child left hive used path i names [] keys uses said = (keys ≡ []) × (uses ≡ []) × (said ≡ [])
KeysLeft Child left hive used path i names (at ∷ more) keys uses said =
    NextStands Child at names keys uses said (λ names keys uses said. KeysLeft Child left hive used path (i + 1) names more keys uses said)
    ⊎ NextFails left hive used path i at names said (λ said. KeysLeft Child left hive used path (i + 1) names more keys uses said)

-- A key of this path at an offset, under a key with this descriptor, where that many levels are left below it. Its name may be empty
-- where it is the root.
pub record KeyLeft (Child : List ℕ → List (List ℕ) → Leaving) (left : ℕ) (root : Bool) (hive : Ground) (used : List Claim) (above : List ℕ)
    (path : KeyNode → List (List ℕ)) (at : ℕ) (t : Tree) (uses : List Claim) (said : List WalkLine) : Type 0 where
  pub node : KeyNode
  pub h : Head
  pub keys : List Tree
  pub offsets : List ℕ
  pub class_uses : List Claim
  pub security_uses : List Claim
  pub values_uses : List Claim
  pub lists_uses : List Claim
  pub keys_uses : List Claim
  pub class_said : List WalkLine
  pub security_said : List WalkLine
  pub values_said : List WalkLine
  pub lists_said : List WalkLine
  pub keys_said : List WalkLine
  pub read : reading (node_at root) hive.cells at ≡ Ok node
  pub tree : t ≡ key h (trees keys)
  pub name : h.name ≡ node.name
  pub flags : h.flags ≡ tree_flags node.flags
  pub stamp : h.stamp ≡ node.stamp
  pub class : ClassLeft hive used (path node) node h.class class_uses class_said
  pub security : SecurityLeft hive used above (path node) node h.security security_uses security_said
  pub values : ValuesLeft hive used (path node) node h.values values_uses values_said
  pub lists : EntriesLeft hive used (path node) node at offsets lists_uses lists_said
  pub children : KeysLeft (Child h.security (path node)) left hive used (path node) 1 [] offsets keys keys_uses keys_said
  pub uses_are : uses ≡ claim_at hive false at (node_long node) ∷ (class_uses ++ (security_uses ++ (values_uses ++ (lists_uses ++ keys_uses))))
  pub said_is : said ≡ class_said ++ (security_said ++ (values_said ++ (lists_said ++ keys_said)))

-- a key with all below it, where that many levels are left, under a key with this descriptor and path
abbrev pub TreeLeft : ℕ → Ground → List Claim → List ℕ → List (List ℕ) → Leaving
TreeLeft zero hive used above path at t uses said = ⊥
TreeLeft (suc left) hive used above path at t uses said =
    KeyLeft (TreeLeft left hive used) left false hive used above (λ node. path ++ node.name ∷ []) at t uses said

-- the root, whose path is empty
abbrev pub RootLeft : Ground → List Claim → Leaving
RootLeft hive used at t uses said = KeyLeft (TreeLeft 511 hive used) 511 true hive used [] (λ node. []) at t uses said

-- The tree that is salvaged, its uses and all lines: the root is at its place, or that has a fault, and it is the first that has the form.
pub data IsSalvage (hive : Ground) (root : ℕ) : Option Tree → Walked → Type 0 where
  at_its_place : (t : Tree) (uses : List Claim) (said : List WalkLine) → RootLeft hive uses root t uses said
      → IsSalvage hive root (Some t) (record { claims = uses; lines = said })
  at_another : (at : ℕ) (kind : HiveFaultKind) (t : Tree) (uses : List Claim) (said : List WalkLine)
      → Fails (node_form true []) node_long false hive [] root kind → least_root hive hive.slots 0 ≡ Some at
      → RootLeft hive uses at t uses said
      → IsSalvage hive root (Some t) (record { claims = uses; lines = lines.Root (fault_at kind root) ∷ lines.RootAt at ∷ said })
  at_none : (kind : HiveFaultKind) → Fails (node_form true []) node_long false hive [] root kind → least_root hive hive.slots 0 ≡ None
      → IsSalvage hive root None (record { claims = []; lines = lines.Root (fault_at kind root) ∷ lines.NoRoot ∷ [] })
