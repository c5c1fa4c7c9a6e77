-- Which children are found of an incomplete key, in which cells, and what is printed for what is left out below them?
--
-- Each key node that names the key as its parent is one more entry of it. It stands with all below it, as a child that a list names does;
-- or it is left out with a fault that it has, and nothing is printed of it.
use Rattle.std.specs.Prelude.{◌≡◌, ◌<◌, ◌⊎◌, ℕ, ◌-◌, ◌*◌, if◌then◌else◌, List, [], ◌∷◌, ◌++◌, length, map, Some, Ok}
use Rattle.nt_bytes.specs.declared.fault.HiveFaultKind.{HiveFaultKind}
use Rattle.hive_model.specs.KeyNode.{KeyNode, key_node_at}
use Rattle.hive_model.specs.Stands.{tree_flags}
use Rattle.hive_model.specs.Tree.{Head, Tree, Trees, key, trees, listed, is_named, find_key}
use Rattle.hive_model.specs.Walk.{reading}
use Rattle.salvage_bins.specs.Ground.{Ground}
use Rattle.salvage_walk.specs.declared.claims.Claim.{Claim}
use Rattle.salvage_walk.specs.declared.lines.Incomplete.{Incomplete}
use Rattle.salvage_walk.specs.declared.lines.WalkLine.{WalkLine}
use Rattle.salvage_walk.specs.Keys.{key_names}
use Rattle.salvage_parents.specs.declared.search.ParentLine.{ParentLine}
use Rattle.salvage_parents.specs.declared.search.ParentLine.TheVariants as printed
use Rattle.salvage_parents.specs.Naming.{naming}
use Rattle.salvage_parents.specs.Search.{arranged_if, found_line}
use Rattle.salvage_laws.specs.Fails.{ChildFails}
use Rattle.salvage_laws.specs.LeftKeys.{Leaving, NextStands, TreeLeft}

-- one of the first n places of eight bytes: an allocated cell begins there that has the form of a key node and names this parent
pub record NamesParent (hive : Ground) (parent n at : ℕ) : Type 0 where
  pub place : ℕ
  pub within : place < n
  pub at_is : at ≡ 8 * place
  pub node : KeyNode
  pub read : reading key_node_at hive.cells at ≡ Ok node
  pub names : node.parent ≡ parent

-- the nodes at these places after children of these names: each stands, or is left out without a line
abbrev pub NodesLeft : Leaving → ℕ → Ground → List Claim → List (List ℕ) → List ℕ → List Tree → List Claim → List WalkLine → Type 0
NodesLeft Child left hive used names [] keys uses said = (keys ≡ []) × (uses ≡ []) × (said ≡ [])
NodesLeft Child left hive used names (at ∷ more) keys uses said =
    NextStands Child at names keys uses said (λ names keys uses said. NodesLeft Child left hive used names more keys uses said)
    ⊎ ((kind : HiveFaultKind) × ChildFails left hive used names at kind × NodesLeft Child left hive used names more keys uses said)

-- how many levels are left below a key
abbrev pub levels_below : Incomplete → ℕ
levels_below own = 511 - length own.path

-- What is found of an incomplete key with this descriptor and these children, and all of its children then: they are in the order of
-- their folded names where any was found, and a line says how many.
pub record ChildrenFound (hive : Ground) (used : List Claim) (own : Incomplete) (security : List ℕ) (keys all : List Tree) (uses : List Claim)
    (said : List ParentLine) : Type 0 where
  pub found : List Tree
  pub below : List WalkLine
  pub nodes : NodesLeft (TreeLeft (levels_below own) hive used security own.path) (levels_below own) hive used (key_names keys)
      (naming hive own.at hive.slots) found uses below
  pub all_are : all ≡ arranged_if (length found) (keys ++ found)
  pub said_is : said ≡ map printed.Walked below ++ found_line (length found) own.path

-- these keys, of which the first of a name is changed
abbrev pub with_named : List ℕ → (Tree → Tree) → List Tree → List Tree
with_named name change [] = []
with_named name change (t ∷ ts) = if is_named name t then change t ∷ ts else t ∷ with_named name change ts

-- a tree in which the key that a path leads to has these children
abbrev pub with_keys_at : List (List ℕ) → List Tree → Tree → Tree
with_keys_at [] keys (key h ts) = key h (trees keys)
with_keys_at (name ∷ path) keys (key h ts) = key h (trees (with_named name (with_keys_at path keys) (listed ts)))

-- the key node at a place is that of a key: it has its name, flags and time of the last write
pub record IsNodeOf (hive : Ground) (at : ℕ) (h : Head) : Type 0 where
  pub node : KeyNode
  pub read : reading key_node_at hive.cells at ≡ Ok node
  pub name : h.name ≡ node.name
  pub flags : h.flags ≡ tree_flags node.flags
  pub stamp : h.stamp ≡ node.stamp

-- a tree after one incomplete key of it: this key has what was found of it, and all else is as it was
pub record KeyFound (hive : Ground) (used : List Claim) (own : Incomplete) (t u : Tree) (uses : List Claim) (said : List ParentLine)
    : Type 0 where
  pub h : Head
  pub ts : Trees
  pub all : List Tree
  pub there : find_key own.path t ≡ Some (key h ts)
  pub place : IsNodeOf hive own.at h
  pub children : ChildrenFound hive used own h.security (listed ts) all uses said
  pub tree : u ≡ with_keys_at own.path all t
